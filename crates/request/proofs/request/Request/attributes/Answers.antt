use Rattle.std.proofs.Common.{None, rules}
use Rattle.request.specs.declared.content.Element.{Element}
use Rattle.request.proofs.Lookup.{attributes_here, attributes_past}
use Rattle.request.proofs.request.Request.attributes.Goals as goal

abbrev blank : Element
blank = record { category = 0; tag = None; attributes = record { first = 0; count = 0 } }

pub returns-in-Some : goal.returns-in-Some
returns-in-Some c =
    let i = c.args.self.now.index in
    search (rules, attributes_here c.args.self.now.bytes.now i.attributes.items i.elements.items c.args.number blank)

pub returns-in-None : goal.returns-in-None
returns-in-None c = search (rules, attributes_past)

use Rattle.std.proofs.Common.{◌∙◌}
use Rattle.request.specs.Place.{content_of}
use Rattle.expansion.specs.Few.{held}
use Rattle.expansion.proofs.Putting.{put_elements, put_content}
use Rattle.expansion.proofs.put.put.Goals as goal

pub returns-clause-elements : goal.returns-clause-elements
returns-clause-elements c = λ h. c.new.ensures.chosen ∙ put_elements (content_of c.args.request.now).elements (held c.args.chosen.now) h

pub returns-clause-content : goal.returns-clause-content
returns-clause-content c = λ tree h. c.new.ensures.content ∙ put_content (content_of c.args.request.now).elements (held c.args.chosen.now) h

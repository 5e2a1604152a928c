-- What a refusal of the code says. Assumes nothing.
use Rattle.std.specs.Prelude.{◌++◌}
use Rattle.std.specs.Option.{option_to_list}
use Rattle.model.specs.declared.refusal.Refusal.{Refusal as Held}
use Rattle.model.specs.Layout.{Refusal}
use Rattle.model.specs.Numbers.{defect_number}

abbrev pub meant : Held → Refusal
meant r = record { number = defect_number r.defect; around = option_to_list r.outer ++ option_to_list r.inner; place = r.place }

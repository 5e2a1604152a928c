-- What a row of the code means. Assumes nothing.
use Rattle.std.specs.Option.{option_map}
use Rattle.model.specs.Rows.{Row}
use Rattle.expansion.specs.Few.{held}
use Rattle.enquiry.specs.declared.row.Row.{Row as ToldRow}

abbrev pub row_of : ToldRow → Row
row_of r = record {
  reference = r.reference;
  choice = option_map held r.choice;
  node = r.node;
  decision = r.decision;
  status = r.status;
  cause = r.cause;
  place = r.place;
}

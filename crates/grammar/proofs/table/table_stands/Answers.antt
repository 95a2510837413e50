use Rattle.grammar.proofs.Lines.{found_by_line, found_by_id, fixed_by_fields}
use Rattle.grammar.proofs.table.table_stands.Goals as goal

pub returns : goal.returns
returns c = (found_by_line, found_by_id, fixed_by_fields)

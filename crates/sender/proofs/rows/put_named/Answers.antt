use Rattle.sender.proofs.Penned.{behind}
use Rattle.sender.proofs.rows.put_named.Goals as goal

pub returns : goal.returns
returns g c = behind _ _ _ _ _ (behind _ _ _ _ _ c.byte.ensures c.text.ensures) c.put_language.ensures

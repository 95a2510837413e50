-- What is written of what was sent.
use Rattle.std.proofs.Common.{◌≡◌, ℕ, List, length, take, Ok, Result, sym, ap, ◌∙◌}
use Rattle.grammar.specs.declared.fault.SendFault.{SendFault}
use Rattle.grammar.specs.Grammar.{Rows}
use Rattle.grammar.specs.Sending.{sending_into}
use Rattle.sender.specs.Sent.{Sent}
use Rattle.listing.specs.Restated.{sent_line, send_line}

pub line_sent : (lead room after s : List ℕ) (rows : Rows) (n d : ℕ) → length room ≡ 65535 → Sent rows room (Ok (n, d)) after
    → s ≡ sent_line lead (take n after) → s ≡ send_line lead (sending_into rows 65535)
line_sent lead room after s rows n d h sent e =
    e ∙ sym (ap (λ (r : Result (List ℕ) SendFault). send_line lead r) (ap (λ (m : ℕ). sending_into rows m) (sym h) ∙ sent.0))

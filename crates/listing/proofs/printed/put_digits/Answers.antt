use Rattle.std.proofs.Common.{◌≡◌, ℕ, ◌<◌, get_or, map, ap, ◌∙◌, rules}
use Rattle.std.proofs.lemmas.Str.{IsUtf8-from_ascii}
use Rattle.std.specs.Char.{to_ascii_uppercase}
use Rattle.listing.specs.Listed.{hexes}
use Rattle.listing.proofs.Writing.{hexes_raised, hexes_ascii}
use Rattle.listing.proofs.printed.put_digits.Goals as goal

pub returns : goal.returns
returns c =
    let bytes = c.args.bytes.now in
    let small : (i : ℕ) → get_or bytes i 0 < 256 = search rules in
    let digits : c.make_ascii_uppercase.new.self ≡ hexes bytes =
    c.make_ascii_uppercase.ensures.after ∙ ap (map to_ascii_uppercase) c.in-Ok.ensures.written ∙ hexes_raised bytes small in
    record { digits = digits; text = rw digits (IsUtf8-from_ascii (hexes bytes) (hexes_ascii bytes small)) }

-- What is written of bytes and rows.
use Rattle.std.proofs.Common.{◌≡◌, ℕ, suc, ◌+◌, ◌/◌, ◌%◌, ◌<◌, ◌≤◌, Bool, true, if◌then◌else◌, nat_le, eqb, eqb→eq, List, [], ◌∷◌, ◌++◌, length, get_or, take, drop, map, ℤ, Some, sym, refl, ap, ap₂, ◌∙◌, append_assoc, append-nil, arith, w32, SFits, to_z, of_z}
use Rattle.std.specs.Char.{to_ascii_uppercase}
use Rattle.std.specs.Str.{IsAscii}
use Rattle.std.proofs.lemmas.List.{take_more, take_at, nil_from_length}
use Rattle.std.proofs.lemmas.Int.{to_z-of_z}
use Rattle.std.proofs.lemmas.Str.Ascii.{IsAscii-nil, IsAscii-cons}
use Rattle.hex.specs.Hex.{encode_lower, encode_with, lower_digits}
use Rattle.grammar.specs.Grammar.{Rows}
use Rattle.grammar.proofs.Lines.{below_at}
use Rattle.location.specs.declared.Row.{Row}
use Rattle.location.specs.Answers.{seen, head_row, head_text, laid_over}
use Rattle.listing.specs.Listed.{hex_digit, hex, hexes, text_line, numbers_line, newline, first_line}

hexes_more : (xs : List ℕ) (b : ℕ) → hexes (xs ++ b ∷ []) ≡ hexes xs ++ hex b
hexes_more [] b = append-nil (hex b)
hexes_more (x ∷ xs) b = ap (λ t. hex x ++ t) (hexes_more xs b) ∙ sym (append_assoc (hex x) (hexes xs) (hex b))

-- signed numbers, to their bits and back
numbers_back : (d k : ℕ) (a b : ℤ) (l : ℕ) (rest : List ℕ) → SFits w32 a → SFits w32 b
    → numbers_line d k (to_z w32 (of_z w32 a)) (to_z w32 (of_z w32 b)) l rest ≡ numbers_line d k a b l rest
numbers_back d k a b l rest fa fb =
    ap (λ (x : ℤ). numbers_line d k x (to_z w32 (of_z w32 b)) l rest) (to_z-of_z w32 a fa) ∙ ap (λ (x : ℤ). numbers_line d k a x l rest) (to_z-of_z w32 b fb)

-- a text that was copied to the front of a room that it fits
pub text_copied : (xs : Rows) (row : Row) (room out : List ℕ) (fits : Bool) (n : ℕ) → Some row ≡ head_row xs → row.length ≤ length room → n ≡ row.length
    → fits ≡ nat_le (length (head_text xs)) (length room) → out ≡ (if fits then laid_over (head_text xs) room else room) → take n out ≡ head_text xs
text_copied [] row room out fits n e big m f w = let z : ◌≡◌ {A = ℕ} 0 1 = cc in absurd (omega arith)
text_copied (x ∷ xs) row room out fits n e big m f w =
    let r : row ≡ seen x = cc in
    let long : row.length ≡ length x.text = ap (λ (q : Row). q.length) r in
    let ok : fits ≡ true = grind (arith, long, big, f) in
    let laid : out ≡ laid_over x.text room = w ∙ ap (λ (b : Bool). if b then laid_over x.text room else room) ok in
    ap (λ (k : ℕ). take k out) (m ∙ long) ∙ ap (take (length x.text)) laid ∙ take_at x.text (drop (length x.text) room) (length x.text) refl

-- no text, of which nothing was copied
pub text_absent : (xs : Rows) (row : Row) (out : List ℕ) (n : ℕ) → Some row ≡ head_row xs → n ≡ row.length → row.length ≡ 0 → take n out ≡ head_text xs
text_absent [] row out n e m none = let z : ◌≡◌ {A = ℕ} 0 1 = cc in absurd (omega arith)
text_absent (x ∷ xs) row out n e m none =
    let r : row ≡ seen x = cc in
    let long : row.length ≡ length x.text = ap (λ (q : Row). q.length) r in
    ap (λ (k : ℕ). take k out) (m ∙ none) ∙ sym (nil_from_length x.text (sym long ∙ none))

-- a row as code sees it, with its text, is the line there
pub line_printed : (xs : Rows) (row : Row) (text s t : List ℕ) → Some row ≡ head_row xs → SFits w32 row.a → SFits w32 row.b → text ≡ head_text xs
    → t ≡ s ++ numbers_line row.depth row.kind (to_z w32 (of_z w32 row.a)) (to_z w32 (of_z w32 row.b)) row.language (text_line text ++ newline)
    → t ≡ s ++ first_line xs
line_printed [] row text s t e fa fb told h = let z : ◌≡◌ {A = ℕ} 0 1 = cc in absurd (omega arith)
line_printed (x ∷ xs) row text s t e fa fb told h =
    let r : row ≡ seen x = cc in
    h ∙ ap (λ (z : List ℕ). s ++ z)
    (numbers_back row.depth row.kind row.a row.b row.language (text_line text ++ newline) fa fb
    ∙ ap (λ (z : List ℕ). numbers_line row.depth row.kind row.a row.b row.language (text_line z ++ newline)) told
    ∙ ap (λ (q : Row). numbers_line q.depth q.kind q.a q.b q.language (text_line x.text ++ newline)) r)

-- a byte more of bytes that are written
pub bytes_more : (xs s o p : List ℕ) (i : ℕ) → i < length xs → o ≡ s ++ hexes (take i xs) → p ≡ o ++ hex (get_or xs i 0) → p ≡ s ++ hexes (take (i + 1) xs)
bytes_more xs s o p i h eo ep =
    ep ∙ ap (λ x. x ++ hex (get_or xs i 0)) eo ∙ append_assoc s (hexes (take i xs)) (hex (get_or xs i 0))
    ∙ ap (λ x. s ++ x) (sym (hexes_more (take i xs) (get_or xs i 0)) ∙ ap hexes (sym (take_more xs i 0 h)))

hexes_append : (xs ys : List ℕ) → hexes (xs ++ ys) ≡ hexes xs ++ hexes ys
hexes_append [] ys = refl
hexes_append (x ∷ xs) ys = ap (λ (t : List ℕ). hex x ++ t) (hexes_append xs ys) ∙ sym (append_assoc (hex x) (hexes xs) (hexes ys))

digit_raised : (d : ℕ) → d < 16 → to_ascii_uppercase (get_or lower_digits d 0) ≡ hex_digit d
digit_raised d h =
    eqb→eq (to_ascii_uppercase (get_or lower_digits d 0)) (hex_digit d) (below_at (λ (d : ℕ). eqb (to_ascii_uppercase (get_or lower_digits d 0)) (hex_digit d)) 16 tt d h)

-- digits in lower case, in upper case
pub hexes_raised : (bytes : List ℕ) → ((i : ℕ) → get_or bytes i 0 < 256) → map to_ascii_uppercase (encode_lower bytes) ≡ hexes bytes
unfolding encode_with
hexes_raised [] h = refl
hexes_raised (b ∷ bs) h =
    let fits : b < 256 = h 0 in
    let high : b / 16 < 16 = omega arith in
    let low : b % 16 < 16 = omega arith in
    ap₂ (λ (x y : ℕ). x ∷ y ∷ map to_ascii_uppercase (encode_lower bs)) (digit_raised (b / 16) high) (digit_raised (b % 16) low)
    ∙ ap (λ (t : List ℕ). hex_digit (b / 16) ∷ hex_digit (b % 16) ∷ t) (hexes_raised bs (λ i. h (suc i)))

digit_ascii : (d : ℕ) → d < 16 → hex_digit d < 128
digit_ascii d h = grind arith

-- what is printed of bytes is text
pub hexes_ascii : (bytes : List ℕ) → ((i : ℕ) → get_or bytes i 0 < 256) → IsAscii (hexes bytes)
hexes_ascii [] h = IsAscii-nil
hexes_ascii (b ∷ bs) h =
    let fits : b < 256 = h 0 in
    let high : b / 16 < 16 = omega arith in
    let low : b % 16 < 16 = omega arith in
    IsAscii-cons (hex_digit (b / 16)) (hex_digit (b % 16) ∷ hexes bs) (digit_ascii (b / 16) high)
    (IsAscii-cons (hex_digit (b % 16)) (hexes bs) (digit_ascii (b % 16) low) (hexes_ascii bs (λ i. h (suc i))))

-- a part more is printed, and is no more to come
pub part_more : (done text part to-come rest all : List ℕ) → text ≡ hexes part → to-come ≡ part ++ rest → done ++ hexes to-come ≡ hexes all → (done ++ text) ++ hexes rest ≡ hexes all
part_more done text part to-come rest all e f h =
    append_assoc done text (hexes rest) ∙ ap (λ (t : List ℕ). done ++ t) (ap (λ (t : List ℕ). t ++ hexes rest) e ∙ sym (hexes_append part rest) ∙ ap hexes (sym f)) ∙ h

-- a line more is written, and is no more to come
pub line_more : (s t a b to-come whole : List ℕ) → t ≡ s ++ a → to-come ≡ a ++ b → s ++ to-come ≡ whole → t ++ b ≡ whole
line_more s t a b to-come whole e f h = rw e (append_assoc s a b ∙ ap (λ x. s ++ x) (sym f) ∙ h)

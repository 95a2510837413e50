-- One turn of a look over the rows of a location: what the calls at a row answer, of the rows from there on.
-- Assumes nothing.
use Rattle.std.proofs.Common.{◌≡◌, ℕ, suc, ◌<◌, Bool, true, false, not, ◌&&◌, ◌||◌, eqb, ltb, List, [], ◌∷◌, length, get_or, Some, None, Option, sym, ap, ◌∙◌, subst}
use Rattle.grammar.specs.Format.{layout}
use Rattle.grammar.specs.Grammar.{Rows, Row as Told, Bytes}
use Rattle.grammar.specs.Flat.{held_count}
use Rattle.grammar.specs.Reading.{is_text, is_count}
use Rattle.grammar.specs.Sending.{counts, stands}
use Rattle.location.specs.declared.Row.{Row}
use Rattle.location.specs.Answers.{seen, head_row, head_text}
use Rattle.location.specs.Steps.{rest_of}
use Rattle.sender.specs.declared.survey.Open.{Open}
use Rattle.sender.specs.declared.survey.Sums.{Sums}
use Rattle.sender.specs.Tested.{stands_in, shut, blank_open, Opened}
use Rattle.sender.specs.Surveyed.{Added}
use Rattle.sender.proofs.Looked.{no_row, seen_is}
use Rattle.sender.proofs.Underway.{Underway, stray, unfit, row_room, go_on}

-- a row that is seen is the first, and the rest are the others
pub record SeenFirst (row : Row) (rows rest : Rows) : Type 0 where
  pub first : Told
  pub are : rows ≡ first ∷ rest
  pub is : row ≡ seen first

seen_first : (xs rest : Rows) (row : Row) → Some row ≡ head_row xs → rest ≡ rest_of xs → SeenFirst row xs rest
seen_first [] rest row e n = absurd (no_row row e)
seen_first (x ∷ xs) rest row e n = record { first = x; are = ap (λ (t : Rows). x ∷ t) (sym n); is = seen_is row x e }

module _
    (os : List Open) (s : Sums) (ts : List ℕ) (all xs rest : Rows) (row : Row) (u : Underway os s ts xs all)
    (e : Some row ≡ head_row xs) (n : rest ≡ rest_of xs)
  where
    turn : SeenFirst row xs rest
    turn = seen_first xs rest row e n

    now_first : Underway os s ts (turn.first ∷ rest) all
    now_first = subst (λ (rows : Rows). Underway os s ts rows all) turn.are u

    added_first : (o : Option Sums) → Added s row o → Added s (seen turn.first) o
    added_first o h = subst (λ (r : Row). Added s r o) turn.is h

    pub turned_off : Added s row None → (d : ℕ) → d < 256 → stands all d ≡ false
    turned_off h = unfit os s ts turn.first rest all now_first (added_first None h)

    module _ (few b : Bool) (few-is : few ≡ (not (is_count (layout row.kind).fields) || ltb (held_count row.depth rest) 256))
        (b-is : b ≡ (ltb row.depth (length os) && stands_in (get_or os row.depth blank_open) row few))
      where
        passed : b
            ≡ (ltb turn.first.depth (length os)
            && stands_in (get_or os turn.first.depth blank_open) (seen turn.first)
            (not (is_count (layout turn.first.kind).fields) || ltb (held_count turn.first.depth rest) 256))
        passed =
            b-is ∙ (λ i. ltb (turn.is i).depth (length os)
            && stands_in (get_or os (turn.is i).depth blank_open) (turn.is i)
            ((few-is ∙ (λ j. not (is_count (layout (turn.is j).kind).fields) || ltb (held_count (turn.is j).depth rest) 256)) i))

        pub turned_away : b ≡ false → (d : ℕ) → d < 256 → stands all d ≡ false
        turned_away h = stray os s ts turn.first rest all now_first (sym passed ∙ h)

        module _ (h : b ≡ true) where
          pub room_inside : shut row ≡ false → suc row.depth < 17
          room_inside q =
              subst (λ (r : Row). suc r.depth < 17) (sym turn.is)
              (row_room os s ts turn.first rest all now_first (sym passed ∙ h) (ap shut (sym turn.is) ∙ q))

          -- all that the turn found
          pub turned : (os' : List Open) (t : Sums) (ts' : List ℕ)
              → Opened (shut row) os row os' → Added s row (Some t) → length ts' ≡ 256
              → ((k : ℕ) → get_or ts' k 0 ≡ counts (is_text (layout row.kind).fields) (eqb row.language k) (get_or ts k 0))
              → (is_text (layout row.kind).fields ≡ true → Bytes (head_text xs)) → row.language < 256 → row.length < 256
              → Underway os' t ts' rest all
          turned os' t ts' o a l c b' g n' =
              go_on os s ts turn.first rest all now_first (sym passed ∙ h) os' t ts'
              (subst (λ (r : Row). Opened (shut r) os r os') turn.is o)
              (added_first (Some t) a)
              l
              (λ k. c k ∙ (λ i. counts (is_text (layout (turn.is i).kind).fields) (eqb (turn.is i).language k) (get_or ts k 0)))
              (λ q. subst (λ (rows : Rows). Bytes (head_text rows)) turn.are (b' (ap (λ (r : Row). is_text (layout r.kind).fields) turn.is ∙ q)))
              (subst (λ (r : Row). r.language < 256) turn.is g)
              (subst (λ (r : Row). r.length < 256) turn.is n')

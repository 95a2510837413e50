-- The tests of one row, as code sees it: its text by the length alone.
use Rattle.std.specs.Prelude.{◌≡◌, ℕ, zero, suc, ◌+◌, ◌^◌, ◌<◌, ◌≤◌, Bool, true, false, ◌&&◌, ◌||◌, List, [], ◌∷◌, ◌++◌, length, take, get_or, ◌==◌, nat_le, nat_lt, slice_index_or}
use Rattle.grammar.specs.declared.table.Spot.TheVariants.{Nowhere}
use Rattle.grammar.specs.Format.{layout, width, kind_at, is_zero, fits}
use Rattle.grammar.specs.Grammar.{deeper}
use Rattle.grammar.specs.Reading.{if, is_text, closed}
use Rattle.grammar.specs.Admits.{Level, level_room}
use Rattle.location.specs.declared.Row.{Row}
use Rattle.sender.specs.declared.survey.Open.{Open}

-- a text, with n bytes more in its component, is too long for the component's length
abbrev pub long_by : Row → ℕ → Bool
long_by r n = is_text (layout r.kind).fields && nat_le (256 ^ width (layout r.kind).holder) (r.length + n)

-- a text that fits its component's length in no way
abbrev pub over_by : Row → Bool
over_by r = long_by r 1

-- a text that fits without a language part only
abbrev pub tight_by : Row → Bool
tight_by r = long_by r 4

-- a row tells only what one of its kind tells
abbrev pub plain_by : Row → Bool
plain_by r =
    if (is_text (layout r.kind).fields) (λ _. is_zero r.a && is_zero r.b)
    (λ _. fits (layout r.kind).fields r.a r.b && (r.language == 0 && r.length == 0))

-- a row may stand at a level, if it has not too many parts
abbrev pub stands_in : Open → Row → Bool → Bool
stands_in o r few =
    (nat_lt 0 r.kind && kind_at o.spot (layout r.kind).id == r.kind)
    && (plain_by r && (nat_le (deeper (layout r.kind).inside o.nodes) 8 && few))

-- no parts may follow
abbrev pub shut : Row → Bool
shut r = is_text (layout r.kind).fields || closed (layout r.kind).inside

abbrev pub blank_open : Open
blank_open = record { spot = Nowhere; nodes = 0 }

abbrev pub level : Open → Level
level o = record { spot = o.spot; nodes = o.nodes }

-- the first n levels of the list, the innermost first
abbrev pub open_levels : List Open → ℕ → List Level
open_levels os zero = []
open_levels os (suc n) = level (slice_index_or os n blank_open) ∷ open_levels os n

-- each level has room for itself and those around it, and none is inside a ninth node
pub record Roomy (os : List Open) : Type 0 where
  pub room : (j : ℕ) → j < length os → suc j ≤ level_room (level (slice_index_or os j blank_open))
  pub eight : (j : ℕ) → j < length os → (get_or os j blank_open).nodes ≤ 8

-- the level that a row opens, where these are open
abbrev pub opened_by : List Open → Row → Open
opened_by os r = record { spot = (layout r.kind).inside; nodes = deeper (layout r.kind).inside (get_or os r.depth blank_open).nodes }

-- the levels after a row: those around it, and the one that it opens
abbrev pub Opened : Bool → List Open → Row → List Open → Type 0
Opened true os r after = after ≡ take (suc r.depth) os
Opened false os r after = after ≡ take (suc r.depth) os ++ opened_by os r ∷ []

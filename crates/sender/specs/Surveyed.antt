-- What one look over the rows of a location finds, and the default language that follows from it.
use Rattle.std.specs.Prelude.{◌≡◌, ℕ, suc, ◌+◌, ◌-◌, ◌*◌, ◌<◌, ◌≤◌, Bool, true, false, cond, ◌⊎◌, List, length, Some, None, Option, ◌==◌, nat_lt, slice_index}
use Rattle.grammar.specs.Format.{layout}
use Rattle.grammar.specs.Grammar.{Rows}
use Rattle.grammar.specs.Reading.{if, is_text}
use Rattle.grammar.specs.Sending.{texts_in, frame, stands, sending}
use Rattle.grammar.specs.Flat.{flat_container}
use Rattle.grammar.specs.Admits.{admits, top_level}
use Rattle.grammar.specs.Choice.{any_over, suits, base_size, texts as texts_of, ByteRows}
use Rattle.location.specs.declared.Row.{Row}
use Rattle.sender.specs.declared.survey.Survey.{Survey}
use Rattle.sender.specs.declared.survey.Sums.{Sums}
use Rattle.sender.specs.Writable.{Writable}
use Rattle.sender.specs.Heads.{own_long}
use Rattle.sender.specs.Tested.{over_by, tight_by}

-- a default may be d, where some text fits in one language only, or none does
abbrev pub must_be : Option ℕ → ℕ → Bool
must_be None d = true
must_be (Some m) d = m == d

-- the sums after one more row: none where no default can serve
abbrev pub Added : Sums → Row → Option Sums → Type 0
Added s r None =
    (over_by r ≡ true)
    ⊎ (((tight_by r ≡ true) × (must_be s.must r.language ≡ false))
    ⊎ (65531 < s.base + own_long r.language r))
Added s r (Some t) =
    (over_by r ≡ false)
    × ((tight_by r ≡ true) → (must_be s.must r.language ≡ true) × (t.must ≡ Some r.language))
    × ((tight_by r ≡ false) → t.must ≡ s.must)
    × (t.base ≡ s.base + own_long r.language r)
    × (t.base ≤ 65531)
    × (t.texts ≡ if (is_text (layout r.kind).fields) (λ _. suc s.texts) (λ _. s.texts))

-- all that sending needs of rows that can be sent
pub record Surveyed (rows : Rows) (s : Survey) : Type 0 where
  -- they have a tree
  pub tree : admits top_level rows ≡ true
  -- each text fits in some language
  pub fit : any_over rows ≡ false
  pub bytes : ByteRows rows
  -- the defaults under which each text fits
  pub suit : (d : ℕ) → suits d rows ≡ must_be s.sums.must d
  pub base : s.sums.base ≡ base_size rows
  pub texts : s.sums.texts ≡ texts_of rows
  pub long : length s.tally ≡ 256
  pub tally : (k : ℕ) → k < 256 → slice_index s.tally k ≡ texts_in k rows
  pub few : frame rows + base_size rows ≤ 65535

-- what a look over the rows gives: nothing where they stand under no default
abbrev pub Found : Rows → Option Survey → Type 0
Found rows None = (d : ℕ) → d < 256 → stands rows d ≡ false
Found rows (Some s) = Surveyed rows s

-- the numbers that a choice starts from
pub record Bounded (s : Survey) : Type 0 where
  pub long : length s.tally ≡ 256
  pub base : s.sums.base ≤ 65535
  pub texts : s.sums.texts ≤ 65535
  pub each : (k : ℕ) → k < 256 → slice_index s.tally k ≤ s.sums.texts

-- the length under the default d
abbrev pub length_for : Survey → ℕ → ℕ
length_for s d = cond (nat_lt 0 s.sums.base) 4 1 + s.sums.base + 3 * (s.sums.texts - slice_index s.tally d)

-- d has the highest number of the first n, and is the lowest such
abbrev pub Highest : List ℕ → ℕ → ℕ → Type 0
Highest xs n d = (e : ℕ) → e < n → (slice_index xs e < slice_index xs d) ⊎ ((slice_index xs e ≡ slice_index xs d) × (d ≤ e))

-- the length and the default that are chosen: none where each default that serves gives too long a container
abbrev pub Chosen : Survey → Option (ℕ × ℕ) → Type 0
Chosen s None = (d : ℕ) → d < 256 → must_be s.sums.must d ≡ true → 65535 < length_for s d
Chosen s (Some c) =
    (c.1 < 256) × (must_be s.sums.must c.1 ≡ true) × (c.0 ≡ length_for s c.1) × (c.0 ≤ 65535)
    × ((e : ℕ) → e < 256 → must_be s.sums.must e ≡ true
    → (slice_index s.tally e < slice_index s.tally c.1) ⊎ ((slice_index s.tally e ≡ slice_index s.tally c.1) × (c.1 ≤ e)))

-- what is sent of some rows, by its length and its default: nothing where no container stands for them
abbrev pub Settled : Rows → Option (ℕ × ℕ) → Type 0
Settled rows None = sending rows ≡ None
Settled rows (Some (n, d)) =
    (sending rows ≡ Some (flat_container d rows)) × (length (flat_container d rows) ≡ n) × (n ≤ 65535) × Writable d rows

-- What is sent, by what one look over the rows finds.
-- Assumes nothing.
use Rattle.std.proofs.Common.{◌≡◌, ℕ, ◌<◌, ◌≤◌, Bool, true, false, ◌&&◌, leb, ◌⊎◌, List, length, Some, None, sym, refl, ap, ◌∙◌, arith, le-leb}
use Rattle.std.proofs.lemmas.Bool.{lt-leb}
use Rattle.grammar.specs.Grammar.{Row}
use Rattle.grammar.specs.Sending.{texts_in, stands, sending}
use Rattle.grammar.specs.Flat.{flat_container}
use Rattle.grammar.specs.Admits.{admits, top_level}
use Rattle.grammar.specs.Choice.{any_over, suits, ByteRows, length_under}
use Rattle.grammar.proofs.Admitted.{admits_stands}
use Rattle.grammar.proofs.Choosing.{stands_by, chosen, none_chosen, texts_in_le, full_is}
use Rattle.grammar.proofs.Flattened.{flat_stands, container_length}

module _ (rows : List Row) (tree : admits top_level rows ≡ true) (fit : any_over rows ≡ false) (bytes : ByteRows rows) where
  stands_is : (d : ℕ) → stands rows d ≡ (suits d rows && leb (length_under d rows) 65535)
  stands_is d = stands_by rows d bytes ∙ rw (tree, fit)

  suited : (d : ℕ) → stands rows d ≡ true → suits d rows ≡ true
  suited d h = go (suits d rows) (leb (length_under d rows) 65535) (sym (stands_is d) ∙ h)
    where
      go : (a b : Bool) → (a && b) ≡ true → a ≡ true
      go true b q = refl
      go false b q = q

  pub flat_long : (d : ℕ) → length (flat_container d rows) ≡ length_under d rows
  flat_long d =
      let t = admits_stands.0 rows tree in
      let c = container_length d rows t.0 t.1 in
      let f = full_is rows in
      let l = texts_in_le d rows in
      omega arith

  -- the default that suits and has most texts, the lowest among equals, is sent under
  pub sent_under : (d : ℕ) → d < 256 → suits d rows ≡ true → length_under d rows ≤ 65535
      → ((e : ℕ) → e < 256 → suits e rows ≡ true → (texts_in e rows < texts_in d rows) ⊎ ((texts_in e rows ≡ texts_in d rows) × (d ≤ e)))
      → sending rows ≡ Some (flat_container d rows)
  sent_under d h s n most =
      let t = admits_stands.0 rows tree in
      chosen rows d h (stands_is d ∙ rw (s, le-leb (length_under d rows) 65535 n)) (λ e k q. most e k (suited e q))
      ∙ ap Some (flat_stands d rows t.0 t.1)

  -- nothing is sent where no default that suits leaves room
  pub none_under : ((d : ℕ) → d < 256 → suits d rows ≡ true → 65535 < length_under d rows) → sending rows ≡ None
  none_under h = none_chosen rows (λ d k. stands_is d ∙ go d k (suits d rows) refl)
    where
      go : (d : ℕ) → d < 256 → (b : Bool) → suits d rows ≡ b → (b && leb (length_under d rows) 65535) ≡ false
      go d k true q = lt-leb (length_under d rows) 65535 (h d k q)
      go d k false q = refl

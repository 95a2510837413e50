-- What is left of rows by a layer that is chosen.
use Rattle.std.specs.Prelude.{◌≡◌, ◌<◌, List, [], ◌∷◌, length, Some, None, Option}
use Rattle.grammar.specs.Grammar.{Rows}
use Rattle.location.specs.Layers.{one_language, cut}
use Rattle.location.specs.declared.layered.Layered.{Layered}
use Rattle.pile.specs.declared.Layer.{Layer}
use Rattle.pile.specs.declared.Layer.TheVariants.{All, Language, Cut}
use Rattle.pile.specs.declared.Order.{Order}

-- the rows that a layer leaves
abbrev pub left_by : Layer → Rows → Rows
left_by All rows = rows
left_by (Language l) rows = one_language l rows
left_by (Cut n) rows = cut n rows

-- the rows of a location with its layer, by those of the location below
abbrev pub seen_through : {L : Type 0} → Layered L Layer → (L → Rows) → Rows
seen_through s rows = left_by s.rule (rows s.below)

-- the rows that layers leave, the lowest layer first
abbrev pub left_by_all : List Layer → Rows → Rows
left_by_all [] rows = rows
left_by_all (l ∷ ls) rows = left_by_all ls (left_by l rows)

abbrev pub in_order : Order → List Layer
in_order o = o.layers

-- an order is given for four layers at most, and leaves what they leave
abbrev pub Ordered : List Layer → Option Order → Type 0
Ordered layers None = 4 < length layers
Ordered layers (Some o) = (rows : Rows) → left_by_all (in_order o) rows ≡ left_by_all layers rows

-- a location with four layers on it, each chosen
abbrev Pile : Type 0 → Type 0
Pile L = Layered (Layered (Layered (Layered L Layer) Layer) Layer) Layer

abbrev pub seen_pile : {L : Type 0} → Pile L → (L → Rows) → Rows
seen_pile p rows = seen_through p (λ a. seen_through a (λ b. seen_through b (λ c. seen_through c rows)))

-- a pile leaves of the rows below what its layers leave of them
abbrev pub Piled : {L : Type 0} → L → Order → Pile L → Type 0
Piled below o p = (rows : _ → Rows) → seen_pile p rows ≡ left_by_all (in_order o) (rows below)

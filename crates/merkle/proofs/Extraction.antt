-- Extraction gives the lowest level whose rows collide, and two different leaves that end alike have one.
use mathlib.Core.Path.{◌≡◌, refl, sym, ap, ◌∙◌}
use mathlib.Core.Logic.{◌≢◌}
use mathlib.Core.Bool.{Bool, true, false, not, true≢false}
use mathlib.Core.List.{List}
use mathlib.Core.Option.{Option, none, some}
use Prim.Native.Nat.{ℕ, zero, suc, ◌*◌, ◌≤◌, ◌<◌}
use native.Mathlib.Omega.{arith}
use lib.ListN.{length}
use borrow.Author.Tests.{not-true}
use Rattle.modular.proofs.Words.{and_true, left_true, right_true}
use Rattle.merkle.specs.Lists.{same, lowest}
use Rattle.merkle.specs.Levels.{Shape, Regular, node}
use Rattle.merkle.specs.Openings.{child, sibling_size, path_node, path_row}
use Rattle.merkle.specs.Extraction.{Collision, collide, collide_at, with_rows, extract}
use Rattle.merkle.specs.Statements.{LowestCollision, Extracted, Extracts, Binding}
use Rattle.merkle.proofs.Lists.{same_true, eq_same, ne_same, same_false, Lowest, Searched, searched, lowest_some}
use Rattle.merkle.proofs.Openings.{path_leaf, path_next, path_node_in_row}

module _ (S : Shape) where
  open S use {compress}

  -- ---- the test
  pub collide_true : (r s : List ℕ) → collide S r s ≡ true → (r ≢ s) × (compress r ≡ compress s)
  unfolding collide
  collide_true r s e = (
    same_false r s (not-true (same r s) (left_true (not (same r s)) (same (compress r) (compress s)) e)),
    same_true (compress r) (compress s) (right_true (not (same r s)) (same (compress r) (compress s)) e),
  )

  pub collide_false : (r s : List ℕ) → collide S r s ≡ false → compress r ≡ compress s → r ≡ s
  unfolding collide
  collide_false r s e z = go (same r s) refl
    where
      go : (t : Bool) → same r s ≡ t → r ≡ s
      go true f = same_true r s f
      go false f = absurd (true≢false (sym (and_true (not (same r s)) (same (compress r) (compress s)) (ap not f) (eq_same (compress r) (compress s) z)) ∙ e))

  pub colliding : (r s : List ℕ) → r ≢ s → compress r ≡ compress s → collide S r s ≡ true
  unfolding collide
  colliding r s n e = and_true (not (same r s)) (same (compress r) (compress s)) (ap not (ne_same r s n)) (eq_same (compress r) (compress s) e)

  -- ---- what is extracted
  module _ (h q : ℕ) (a x b y : List ℕ) where
    lowest_at : (j : ℕ) → Lowest (collide_at S q a x b y) h j
        → LowestCollision S h q a x b y (record { level = j; first = path_row S q a x j; second = path_row S q b y j })
    unfolding collide_at
    lowest_at j L =
        let C = collide_true (path_row S q a x j) (path_row S q b y j) L.accepted in
        record {
          below = L.within;
          first = refl;
          second = refl;
          differ = C.0;
          alike = C.1;
          lowest = λ i c. collide_false (path_row S q a x i) (path_row S q b y i) (L.none_below i c);
        }

    pub extracted : Extracted S h q a x b y (extract S h q a x b y)
    unfolding extract collide_at with_rows
    extracted = go (lowest (collide_at S q a x b y) h) (searched (collide_at S q a x b y) h)
      where
        none_at : ((i : ℕ) → i < h → collide_at S q a x b y i ≡ false) → Extracted S h q a x b y none
        none_at e i c = collide_false (path_row S q a x i) (path_row S q b y i) (e i c)

        go : (o : Option ℕ) → Searched (collide_at S q a x b y) h o → Extracted S h q a x b y (with_rows S q a x b y o)
        go none e = none_at e
        go (some j) L = lowest_at j L

    -- the first level that a search upwards meets
    pub extract_at : (j : ℕ) → j < h → collide_at S q a x b y j ≡ true → ((i : ℕ) → i < j → collide_at S q a x b y i ≡ false)
        → extract S h q a x b y ≡ some (record { level = j; first = path_row S q a x j; second = path_row S q b y j })
    unfolding extract with_rows
    extract_at j c t e = rw (lowest_some (collide_at S q a x b y) j h c t e)

  -- ---- two leaves that end alike
  module _ (G : Regular S) (h q : ℕ) (a x b y : List ℕ) (la : length a ≡ S.node_size) (lb : length b ≡ S.node_size)
      (lx : length x ≡ h * sibling_size S) (ly : length y ≡ h * sibling_size S) where
    -- nodes that differ stand in rows that differ
    pub rows_differ : (j : ℕ) → j < h → path_node S q a x j ≢ path_node S q b y j → path_row S q a x j ≢ path_row S q b y j
    rows_differ j c n z =
        n (sym (path_node_in_row S G h q a x la lx j c) ∙ ap (node S (child S q j)) z ∙ path_node_in_row S G h q b y lb ly j c)

    -- so without a collision the nodes differ up to the root
    differ_on : Extracted S h q a x b y none → a ≢ b → (j : ℕ) → j ≤ h → path_node S q a x j ≢ path_node S q b y j
    differ_on E n zero c z = n (sym (path_leaf S G q a x) ∙ z ∙ path_leaf S G q b y)
    differ_on E n (suc j) c z =
        rows_differ j c (differ_on E n j (omega arith)) (E j c (sym (path_next S G q a x j) ∙ z ∙ path_next S G q b y j))

    pub extracts : a ≢ b → path_node S q a x h ≡ path_node S q b y h → Extracts S h q a x b y
    extracts n e = go (extract S h q a x b y) refl (extracted h q a x b y)
      where
        go : (o : Option Collision) → extract S h q a x b y ≡ o → Extracted S h q a x b y o → Extracts S h q a x b y
        go none f E = absurd (differ_on E n h (omega arith) e)
        go (some c) f L = record { collision = c; given = f; lowest_one = L }

  pub binding : Regular S → Binding S
  binding G h q a x b y la lb lx ly = extracts G h q a x b y la lb lx ly

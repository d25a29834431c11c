-- A tally at the beginning, for an accepted set, meets what the passes presume.
use mathlib.Core.Bool.{false, ◌&&◌, false≢true}
use mathlib.Core.List.{List}
use Prim.Native.Nat.{ℕ, ◌/◌}
use native.Mathlib.Omega.{arith}
use lib.Dec.{lit<, eqb, leb}
use lib.ListN.{length, replicate, length-replicate}
use borrow.Author.Tests.{leb-true}
use Rattle.modular.proofs.Words.{right_true}
use Rattle.parameters.specs.declared.ParameterSet.{ParameterSet}
use Rattle.repeats.specs.Maps.{map_words}
use Rattle.records.specs.Listed.{listed}
use Rattle.records.proofs.Listed.{listed_count}
use Rattle.records.specs.Tests.{keepable, room_of, Going}
use Rattle.measures.specs.Pushed.{beginning, Pushable}

module _ (s : ParameterSet) (n : ℕ) (ns : List ℕ) (P : Pushable s n (length ns / 7)) where
  pub first_asks : (repeats : ℕ) → Going s 0 (replicate keepable 0) (beginning n (eqb repeats 1) (eqb repeats 1 && leb (length ns / 7) keepable)) (length (listed ns))
  unfolding room_of
  first_asks repeats = record {
    accepted = λ z. P.accepted;
    whole = λ z. length-replicate {A = ℕ} keepable 0;
    places = λ z. P.places;
    keeps = λ z few. omega (arith, listed_count ns, leb-true (length ns / 7) keepable (right_true (eqb repeats 1) (leb (length ns / 7) keepable) few));
    counts = omega (arith, listed_count ns, P.count);
    rank = λ z. absurd (omega (arith, z));
    low = lit< tt;
  }

  pub search_asks : Going s 3 (replicate map_words 0) (beginning n false false) (length (listed ns))
  unfolding room_of
  search_asks = record {
    accepted = λ z. P.accepted;
    whole = λ z. length-replicate {A = ℕ} map_words 0;
    places = λ z. P.places;
    keeps = λ z few. absurd (false≢true few);
    counts = omega (arith, listed_count ns, P.count);
    rank = λ z. absurd (omega (arith, z));
    low = lit< tt;
  }

-- An array that is filled with the records of a list of numbers, one after the other.
use mathlib.Core.Path.{◌≡◌, refl, sym, ap, subst, ◌∙◌}
use mathlib.Core.List.{List, [], ◌∷◌, ◌++◌}
use Prim.Native.Nat.{ℕ, suc, ◌+◌, ◌/◌, ◌<◌, min}
use native.Mathlib.Numerals.{add-one}
use lib.ListN.{length, take, set, length-set}
use lib.Seq.{take-suc-set}
use Rattle.records.specs.declared.record.Record.{Record}
use Rattle.records.specs.Listed.{record_at, records_of}
use Rattle.adapters.specs.Listed.{first_records}

-- the first i are there
pub record Filled (ns : List ℕ) (rs : List Record) (i : ℕ) : Type 0 where
  pub whole : length rs ≡ 192
  pub sofar : take i rs ≡ records_of ns i

pub filled_none : (ns : List ℕ) (rs : List Record) → length rs ≡ 192 → Filled ns rs 0
unfolding records_of
filled_none ns rs e = record { whole = e; sofar = refl }

filled_suc : (ns : List ℕ) (rs : List Record) (i : ℕ) (r : Record) → i < 192 → r ≡ record_at ns i → Filled ns rs i → take (suc i) (set rs i r) ≡ records_of ns (suc i)
unfolding records_of
filled_suc ns rs i r below e F = take-suc-set rs i r (subst (λ (n : ℕ). i < n) (sym F.whole) below) ∙ (λ j. F.sofar j ++ (e j ∷ []))

pub filled_next : (ns : List ℕ) (rs : List Record) (i : ℕ) (r : Record) → i < 192 → r ≡ record_at ns i → Filled ns rs i → Filled ns (set rs i r) (i + 1)
filled_next ns rs i r below e F = record {
  whole = length-set rs i r ∙ F.whole;
  sofar = subst (λ (n : ℕ). take n (set rs i r) ≡ records_of ns n) (sym (add-one i)) (filled_suc ns rs i r below e F);
}

pub filled_all : (ns : List ℕ) (rs : List Record) (i : ℕ) → i ≡ min 192 (length ns / 7) → Filled ns rs i → take i rs ≡ first_records ns
unfolding first_records
filled_all ns rs i e F = F.sofar ∙ ap (records_of ns) e

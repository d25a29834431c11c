-- A list of numbers and its records: how many they are, and which is where.
use mathlib.Core.Path.{◌≡◌, refl, sym, ap, subst, ◌∙◌}
use mathlib.Core.Bool.{Bool, true, false}
use mathlib.Core.List.{List, [], ◌∷◌, ◌++◌}
use Prim.Native.Nat.{ℕ, zero, suc, ◌+◌, ◌*◌, ◌-◌, ◌/◌, ◌≤◌, ◌<◌}
use native.Mathlib.Nat.{mul-div_cancel}
use native.Mathlib.Omega.{arith}
use lib.Dec.{ltb}
use lib.ListN.{length, get_or, take, drop, length-append, length-drop, take-append-drop, get_or-append}
use lib.Seq.{length-take-le, get_or_at, get_or-drop, drop-drop, drop_at}
use borrow.Author.Tests.{ltb-true, ltb-false}
use Rattle.records.specs.declared.record.Record.{Record}
use Rattle.records.specs.Records.{SixWords}
use Rattle.records.specs.Listed.{record_of, record_at, records_of, listed, flat}

-- record i, number by number
pub record_at_lem : (ns : List ℕ) (i : ℕ)
    → record {
      place = get_or ns (i * 7) 0;
      words = get_or ns (i * 7 + 1) 0 ∷ get_or ns (i * 7 + 2) 0 ∷ get_or ns (i * 7 + 3) 0 ∷ get_or ns (i * 7 + 4) 0 ∷ get_or ns (i * 7 + 5) 0 ∷ get_or ns (i * 7 + 6) 0 ∷ [];
    } ≡ record_at ns i
unfolding record_at
record_at_lem ns i =
    λ k. record {
      place = get_or ns (i * 7) 0;
      words =
          word 0 (i * 7 + 1) (omega arith) k ∷ word 1 (i * 7 + 2) (omega arith) k ∷ word 2 (i * 7 + 3) (omega arith) k ∷ word 3 (i * 7 + 4) (omega arith) k
          ∷ word 4 (i * 7 + 5) (omega arith) k ∷ word 5 (i * 7 + 6) (omega arith) k ∷ [];
    }
  where
    word : (j n : ℕ) → n ≡ i * 7 + 1 + j → get_or ns n 0 ≡ get_or (drop (i * 7 + 1) ns) j 0
    word j n e = ap (λ (n : ℕ). get_or ns n 0) e ∙ sym (get_or-drop (i * 7 + 1) ns j 0)

-- six words, and what follows them
six_words_lem : (q : ℕ) (ws rest : List ℕ) → length ws ≡ 6 → record_of q (ws ++ rest) ≡ record { place = q; words = ws }
six_words_lem q [] rest e = absurd (omega (arith, e))
six_words_lem q (a ∷ []) rest e = absurd (omega (arith, e))
six_words_lem q (a ∷ b ∷ []) rest e = absurd (omega (arith, e))
six_words_lem q (a ∷ b ∷ c ∷ []) rest e = absurd (omega (arith, e))
six_words_lem q (a ∷ b ∷ c ∷ d ∷ []) rest e = absurd (omega (arith, e))
six_words_lem q (a ∷ b ∷ c ∷ d ∷ f ∷ []) rest e = absurd (omega (arith, e))
six_words_lem q (a ∷ b ∷ c ∷ d ∷ f ∷ g ∷ []) rest e = refl
six_words_lem q (a ∷ b ∷ c ∷ d ∷ f ∷ g ∷ h ∷ ws) rest e = absurd (omega (arith, e))

-- its words are the six numbers after its place, as a part of the list
abbrev pub words_part : List ℕ → ℕ → List ℕ
words_part ns i = take (i * 7 + 7 - (i * 7 + 1)) (drop (i * 7 + 1) ns)

pub six_at : (ns : List ℕ) (i : ℕ) → i * 7 + 7 ≤ length ns → length (words_part ns i) ≡ 6
six_at ns i l =
    length-take-le (i * 7 + 7 - (i * 7 + 1)) (drop (i * 7 + 1) ns) (omega (arith, l, length-drop (i * 7 + 1) ns)) ∙ (omega arith)

pub words_at : (ns : List ℕ) (i : ℕ) → i * 7 + 7 ≤ length ns → (record_at ns i).words ≡ words_part ns i
unfolding record_at
words_at ns i l =
    let q = get_or ns (i * 7) 0 in
    ap (λ (r : Record). r.words)
    (ap (record_of q) (sym (take-append-drop (i * 7 + 7 - (i * 7 + 1)) (drop (i * 7 + 1) ns)))
    ∙ six_words_lem q (words_part ns i) (drop (i * 7 + 7 - (i * 7 + 1)) (drop (i * 7 + 1) ns)) (six_at ns i l))

module _ (ns : List ℕ) where
  count_of : (n : ℕ) → length (records_of ns n) ≡ n
  unfolding records_of
  count_of zero = refl
  count_of (suc n) = omega (arith, length-append (records_of ns n) (record_at ns n ∷ []), count_of n)

  at_of : (n i : ℕ) (r : Record) → i < n → get_or (records_of ns n) i r ≡ record_at ns i
  unfolding records_of
  at_of zero i r l = absurd (omega (arith, l))
  at_of (suc n) i r l = go (ltb i n) refl (at_of n i r)
    where
      go : (b : Bool) → ltb i n ≡ b → (i < n → get_or (records_of ns n) i r ≡ record_at ns i) → get_or (records_of ns (suc n)) i r ≡ record_at ns i
      go true e ih =
          let b = ltb-true i n e in
          get_or-append (records_of ns n) (record_at ns n ∷ []) r i (subst (λ (k : ℕ). i < k) (sym (count_of n)) b) ∙ ih b
      go false e ih =
          let last : i ≡ n = omega (arith, l, ltb-false i n e) in
          get_or_at (records_of ns n) (record_at ns n) [] r i (count_of n ∙ sym last) ∙ ap (record_at ns) (sym last)

  pub listed_count : length (listed ns) ≡ length ns / 7
  unfolding listed
  listed_count = count_of (length ns / 7)

  pub listed_at : (i : ℕ) (r : Record) → i < length ns / 7 → get_or (listed ns) i r ≡ record_at ns i
  unfolding listed
  listed_at = at_of (length ns / 7)

-- ---- the records of a list have six words

six_more : (rs : List Record) (r : Record) → SixWords rs → length r.words ≡ 6 → SixWords (rs ++ (r ∷ []))
six_more [] r S e = (e, tt)
six_more (q ∷ rs) r S e = (S.0, six_more rs r S.1 e)

six_of : (ns : List ℕ) (n : ℕ) → SixWords (records_of ns n)
unfolding records_of record_at
six_of ns zero = tt
six_of ns (suc n) = six_more (records_of ns n) (record_at ns n) (six_of ns n) refl

pub listed_six : (ns : List ℕ) → SixWords (listed ns)
unfolding listed
listed_six ns = six_of ns (length ns / 7)

-- ---- records read from their own numbers

record_next : (ns : List ℕ) (i : ℕ) → record_at ns (suc i) ≡ record_at (drop 7 ns) i
unfolding record_at
record_next ns i =
    let at : suc i * 7 ≡ 7 + i * 7 = omega arith in
    let from : suc i * 7 + 1 ≡ 7 + (i * 7 + 1) = omega arith in
    let place : get_or ns (suc i * 7) 0 ≡ get_or (drop 7 ns) (i * 7) 0 = ap (λ (n : ℕ). get_or ns n 0) at ∙ sym (get_or-drop 7 ns (i * 7) 0) in
    let words : drop (suc i * 7 + 1) ns ≡ drop (i * 7 + 1) (drop 7 ns) = ap (λ (n : ℕ). drop n ns) from ∙ sym (drop-drop (i * 7 + 1) 7 ns) in
    λ j. record_of (place j) (words j)

records_next : (ns : List ℕ) (n : ℕ) → records_of ns (suc n) ≡ record_at ns 0 ∷ records_of (drop 7 ns) n
unfolding records_of
records_next ns zero = refl
records_next ns (suc n) = λ j. records_next ns n j ++ (record_next ns n j ∷ [])

pub flat_length : (rs : List Record) → SixWords rs → length (flat rs) ≡ length rs * 7
unfolding flat
flat_length [] S = refl
flat_length (r ∷ rs) S = omega (arith, length-append r.words (flat rs), S.0, flat_length rs S.1)

records_flat : (rs : List Record) → SixWords rs → records_of (flat rs) (length rs) ≡ rs
unfolding flat records_of record_at
records_flat [] S = refl
records_flat (r ∷ rs) S =
    let rest : drop 7 (flat (r ∷ rs)) ≡ flat rs = drop_at r.words (flat rs) 6 S.0 in
    records_next (flat (r ∷ rs)) (length rs)
    ∙ (λ j. six_words_lem r.place r.words (flat rs) S.0 j ∷ records_of (rest j) (length rs))
    ∙ ap (λ (qs : List Record). r ∷ qs) (records_flat rs S.1)

pub listed_flat : (rs : List Record) → SixWords rs → listed (flat rs) ≡ rs
unfolding listed
listed_flat rs S =
    let n : length (flat rs) / 7 ≡ length rs = ap (λ (m : ℕ). m / 7) (flat_length rs S) ∙ mul-div_cancel (length rs) {n = 7} (omega arith) in
    ap (records_of (flat rs)) n ∙ records_flat rs S

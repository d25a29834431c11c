-- An array that begins with what was written so far.
use mathlib.Core.Path.{◌≡◌, sym, ap, ◌∙◌}
use mathlib.Core.List.{List, [], ◌∷◌, ◌++◌}
use Prim.Native.Nat.{ℕ, ◌+◌, ◌≤◌}
use native.Mathlib.Omega.{arith}
use borrow.Rule.Slice.PartMut.{put_mid}
use lib.ListN.{length, take, drop, set, length-set, length-append, length-drop, length-take}
use lib.Seq.{take_all, take_at, take-suc-set}
use Rattle.std.proofs.lemmas.Slice.{take-put_mid}

record Begun (i : ℕ) (P xs : List ℕ) : Type 0 where
  long : length xs ≡ 238
  begins : take i xs ≡ P

begun_first : (xs v : List ℕ) (n : ℕ) → length xs ≡ 238 → length v ≡ n → n ≤ 238 → Begun n v (v ++ drop n xs)
begun_first xs v n long l h = record {
  long = omega (arith, length-append v (drop n xs), length-drop n xs);
  begins = take_at v (drop n xs) n l;
}

begun_more : (i : ℕ) (P xs v : List ℕ) (n : ℕ) → length v ≡ n → i + n ≤ 238 → Begun i P xs → Begun (i + n) (P ++ v) (put_mid i n xs v)
begun_more i P xs v n l h B = record {
  long =
      omega (arith, B.long, length-append (take i xs) (v ++ drop n (drop i xs)), length-take i xs, length-append v (drop n (drop i xs)), length-drop n (drop i xs), length-drop i xs);
  begins = take-put_mid i n xs v (i + n) (omega arith) (omega (arith, B.long)) ∙ ap (λ (l : List ℕ). l ++ v) B.begins;
}

-- five numbers, three lists and the last number, each written where the one before ended
whole : (xs five D C es : List ℕ) (k : ℕ) → length xs ≡ 238 → length five ≡ 5 → length D ≡ 12 → length C ≡ 208 → length es ≡ 12
    → set (put_mid 225 12 (put_mid 17 208 (put_mid 5 12 (five ++ drop 5 xs) D) C) es) 237 k ≡ (((five ++ D) ++ C) ++ es) ++ (k ∷ [])
whole xs five D C es k long l5 lD lC lE =
    let b5 = begun_first xs five 5 long l5 (omega arith) in
    let b17 = begun_more 5 five (five ++ drop 5 xs) D 12 lD (omega arith) b5 in
    let b225 = begun_more 17 (five ++ D) (put_mid 5 12 (five ++ drop 5 xs) D) C 208 lC (omega arith) b17 in
    let ys : List ℕ = put_mid 225 12 (put_mid 17 208 (put_mid 5 12 (five ++ drop 5 xs) D) C) es in
    let b237 = begun_more 225 ((five ++ D) ++ C) (put_mid 17 208 (put_mid 5 12 (five ++ drop 5 xs) D) C) es 12 lE (omega arith) b225 in
    sym (take_all 238 (set ys 237 k) (omega (arith, length-set ys 237 k, b237.long)))
    ∙ take-suc-set ys 237 k (omega (arith, b237.long))
    ∙ ap (λ (l : List ℕ). l ++ (k ∷ [])) b237.begins

pub written : (xs five D C es : List ℕ) (k : ℕ) {ws E F fs : List ℕ} → length xs ≡ 238 → length five ≡ 5 → length D ≡ 12 → length C ≡ 208 → length es ≡ 12
    → ws ≡ five → E ≡ D → F ≡ C → fs ≡ es
    → set (put_mid 225 12 (put_mid 17 208 (put_mid 5 12 (ws ++ drop 5 xs) E) F) fs) 237 k ≡ (((five ++ D) ++ C) ++ es) ++ (k ∷ [])
written xs five D C es k long l5 lD lC lE e f g h = rw (e, f, g, h) (whole xs five D C es k long l5 lD lC lE)

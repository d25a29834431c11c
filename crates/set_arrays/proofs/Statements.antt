-- Sets and their arrays, either from the other.
use mathlib.Core.Path.{◌≡◌, sym, ap, ◌∙◌}
use mathlib.Core.List.{List, [], ◌∷◌, ◌++◌, append_assoc}
use Prim.Native.Nat.{ℕ}
use native.Mathlib.Omega.{arith}
use lib.ListN.{length, get_or, take, drop, take-append-drop, drop_of_length-le}
use lib.Seq.{take_at, drop_at, drop-cons, drop-drop, get_or-drop}
use Rattle.merkle.specs.Lists.{part}
use Rattle.parameters.specs.declared.ParameterSet.{ParameterSet}
use Rattle.set_arrays.specs.Arrays.{set_of, array_of}
use Rattle.set_arrays.specs.Statements.{Places, Arrays}

-- a set by its parts of an array
pub of_parts : (xs : List ℕ) {D C es : List ℕ} → D ≡ part 5 12 xs → C ≡ part 17 208 xs → es ≡ part 225 12 xs
    → record { width = get_or xs 0 0; node_size = get_or xs 1 0; height = get_or xs 2 0; full_rounds = get_or xs 3 0; partial_rounds = get_or xs 4 0; diagonal = D; constants = C; inverses = es; total_inverse = get_or xs 237 0 }
    ≡ set_of xs
unfolding set_of
of_parts xs e f g = λ i. record {
  width = get_or xs 0 0;
  node_size = get_or xs 1 0;
  height = get_or xs 2 0;
  full_rounds = get_or xs 3 0;
  partial_rounds = get_or xs 4 0;
  diagonal = e i;
  constants = f i;
  inverses = g i;
  total_inverse = get_or xs 237 0;
}

-- the five numbers and the lists one after another, from the front on, are the array
pub of_list : (s : ParameterSet)
    → ((((s.width ∷ s.node_size ∷ s.height ∷ s.full_rounds ∷ s.partial_rounds ∷ []) ++ s.diagonal) ++ s.constants) ++ s.inverses) ++ (s.total_inverse ∷ [])
    ≡ array_of s
unfolding array_of
of_list s =
    let five : List ℕ = s.width ∷ s.node_size ∷ s.height ∷ s.full_rounds ∷ s.partial_rounds ∷ [] in
    append_assoc ((five ++ s.diagonal) ++ s.constants) s.inverses (s.total_inverse ∷ [])
    ∙ append_assoc (five ++ s.diagonal) s.constants (s.inverses ++ (s.total_inverse ∷ []))
    ∙ append_assoc five s.diagonal (s.constants ++ (s.inverses ++ (s.total_inverse ∷ [])))

-- a set whose lists have their places, from its array
read_again : (s : ParameterSet) → Places s → set_of (array_of s) ≡ s
unfolding set_of array_of
read_again s P =
    let last : List ℕ = s.total_inverse ∷ [] in
    let behind-D : drop 12 (s.diagonal ++ (s.constants ++ (s.inverses ++ last))) ≡ s.constants ++ (s.inverses ++ last) =
    drop_at s.diagonal _ 12 P.diagonal in
    let behind-C : drop 220 (s.diagonal ++ (s.constants ++ (s.inverses ++ last))) ≡ s.inverses ++ last =
    sym (drop-drop 208 12 (s.diagonal ++ (s.constants ++ (s.inverses ++ last)))) ∙ ap (drop 208) behind-D ∙ drop_at s.constants _ 208 P.constants in
    let behind-E : drop 232 (s.diagonal ++ (s.constants ++ (s.inverses ++ last))) ≡ last =
    sym (drop-drop 12 220 (s.diagonal ++ (s.constants ++ (s.inverses ++ last)))) ∙ ap (drop 12) behind-C ∙ drop_at s.inverses last 12 P.inverses in
    let e : take 12 (s.diagonal ++ (s.constants ++ (s.inverses ++ last))) ≡ s.diagonal = take_at s.diagonal _ 12 P.diagonal in
    let f : take 208 (drop 12 (s.diagonal ++ (s.constants ++ (s.inverses ++ last)))) ≡ s.constants = ap (take 208) behind-D ∙ take_at s.constants _ 208 P.constants in
    let g : take 12 (drop 220 (s.diagonal ++ (s.constants ++ (s.inverses ++ last)))) ≡ s.inverses = ap (take 12) behind-C ∙ take_at s.inverses last 12 P.inverses in
    let k : get_or (s.diagonal ++ (s.constants ++ (s.inverses ++ last))) 232 0 ≡ s.total_inverse =
    sym (get_or-drop 232 (s.diagonal ++ (s.constants ++ (s.inverses ++ last))) 0 0) ∙ ap (λ (l : List ℕ). get_or l 0 0) behind-E in
    λ i. record {
      width = s.width;
      node_size = s.node_size;
      height = s.height;
      full_rounds = s.full_rounds;
      partial_rounds = s.partial_rounds;
      diagonal = e i;
      constants = f i;
      inverses = g i;
      total_inverse = k i;
    }

-- an array from its set
written_again : (xs : List ℕ) → length xs ≡ 238 → array_of (set_of xs) ≡ xs
unfolding set_of array_of
written_again (t ∷ l ∷ h ∷ rf ∷ rp ∷ ys) e =
    let last : get_or ys 232 0 ∷ [] ≡ drop 232 ys = sym (drop-cons ys 232 0 (omega arith) ∙ ap (λ (l : List ℕ). get_or ys 232 0 ∷ l) (drop_of_length-le ys {i = 233} (omega arith))) in
    let inverses : take 12 (drop 220 ys) ++ (get_or ys 232 0 ∷ []) ≡ drop 220 ys =
    ap (λ (l : List ℕ). take 12 (drop 220 ys) ++ l) (last ∙ sym (drop-drop 12 220 ys)) ∙ take-append-drop 12 (drop 220 ys) in
    let constants : take 208 (drop 12 ys) ++ (take 12 (drop 220 ys) ++ (get_or ys 232 0 ∷ [])) ≡ drop 12 ys =
    ap (λ (l : List ℕ). take 208 (drop 12 ys) ++ l) (inverses ∙ sym (drop-drop 208 12 ys)) ∙ take-append-drop 208 (drop 12 ys) in
    ap (λ (zs : List ℕ). t ∷ l ∷ h ∷ rf ∷ rp ∷ zs) (ap (λ (m : List ℕ). take 12 ys ++ m) constants ∙ take-append-drop 12 ys)
written_again [] e = absurd (omega arith)
written_again (t ∷ []) e = absurd (omega arith)
written_again (t ∷ l ∷ []) e = absurd (omega arith)
written_again (t ∷ l ∷ h ∷ []) e = absurd (omega arith)
written_again (t ∷ l ∷ h ∷ rf ∷ []) e = absurd (omega arith)

pub arrays : Arrays
arrays = record { read = read_again; written = written_again }

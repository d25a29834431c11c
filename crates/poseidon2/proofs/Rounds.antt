-- The rounds and the permutation keep states, and their inverses undo them: each is put together from its steps.
use mathlib.Core.Path.{◌≡◌, refl, sym, ap, subst, ◌∙◌}
use mathlib.Core.List.{List, [], ◌∷◌}
use Prim.Native.Nat.{ℕ, zero, suc, ◌+◌, ◌*◌, ◌-◌, ◌%◌, ◌^◌, ◌<◌}
use native.Mathlib.Nat.{mod-lt}
use native.Mathlib.Omega.{arith}
use lib.ListN.{length, get_or, take, drop, length-map}
use lib.Seq.{length-take-le}
use Rattle.modular.specs.Arithmetic.{add, sub, pow, seventh_root}
use Rattle.modular.specs.PrimeField.{PrimeField, SeventhRoots}
use Rattle.modular.proofs.Congruence.{rest≈}
use Rattle.modular.proofs.Ring.{var, ◌⊕◌, rem, neg, same?, ring}
use Rattle.modular.proofs.PrimeField.{prime_laws}
use Rattle.poseidon2.specs.Layers.{add_lists, external, internal}
use Rattle.poseidon2.specs.Rounds.{add_constants, seventh_powers, full_round, raise_first, partial_round, full_rounds, partial_rounds, permute_at, permute}
use Rattle.poseidon2.specs.Compression.{compress}
use Rattle.poseidon2.specs.Inverse.{sub_lists, seventh_roots, unexternal, uninternal, unfull_round, unraise_first, unpartial_round, unfull_rounds, unpartial_rounds, unpermute_at, unpermute}
use Rattle.poseidon2.specs.Statements.{Width, Words, State, AcceptedDiagonal, Undo, Invertible, Sizes, Claims}
use Rattle.poseidon2.proofs.Words.{cons_eq, words_tail, words_more, words_map, words_take, add_lists-length, add_lists-words, sub_lists-length, sub_lists-words}
use Rattle.poseidon2.proofs.Undo.{no_undo, undo_then, undo_same}
use Rattle.poseidon2.proofs.Internal.{internal_state, undo_internal}
use Rattle.poseidon2.proofs.Singular.{singular}
use Rattle.poseidon2.proofs.External.{external_state, undo_external}
use Rattle.poseidon2.proofs.Residues.{on_residues_lem}

-- ---- sizes

seventh_powers-length : (p : ℕ) (xs : List ℕ) → length (seventh_powers p xs) ≡ length xs
unfolding seventh_powers
seventh_powers-length p xs = length-map xs _

raise_first-length : (p c : ℕ) (xs : List ℕ) → length (raise_first p c xs) ≡ length xs
unfolding raise_first
raise_first-length p c [] = refl
raise_first-length p c (x ∷ xs) = refl

module _ {p t : ℕ} (pos : 0 < p) (w : Width t) where
  pub full_round-state : (cs xs : List ℕ) → length xs ≡ t → State p t (full_round p cs xs)
  unfolding full_round add_constants
  full_round-state cs xs l =
      external_state pos w (seventh_powers p (add_lists p xs cs)) (seventh_powers-length p (add_lists p xs cs) ∙ add_lists-length p xs cs ∙ l)

  pub partial_round-state : (D : List ℕ) (c : ℕ) (xs : List ℕ) → length xs ≡ t → State p t (partial_round p D c xs)
  unfolding partial_round
  partial_round-state D c xs l = internal_state pos D (raise_first p c xs) (raise_first-length p c xs ∙ l)

  pub full_rounds-state : (n : ℕ) (cs xs : List ℕ) → State p t xs → State p t (full_rounds p t n cs xs)
  unfolding full_rounds
  full_rounds-state zero cs xs s = s
  full_rounds-state (suc n) cs xs s = full_rounds-state n (drop t cs) (full_round p (take t cs) xs) (full_round-state (take t cs) xs s.width)

  pub partial_rounds-state : (D : List ℕ) (n : ℕ) (cs xs : List ℕ) → State p t xs → State p t (partial_rounds p D n cs xs)
  unfolding partial_rounds
  partial_rounds-state D zero cs xs s = s
  partial_rounds-state D (suc n) cs xs s =
      partial_rounds-state D n (drop 1 cs) (partial_round p D (get_or cs 0 0) xs) (partial_round-state D (get_or cs 0 0) xs s.width)

-- the permutation of a state of t words
pub permute_at_lem : (p t half rp : ℕ) (D C xs : List ℕ) → length xs ≡ t → permute p half rp D C xs ≡ permute_at p t half rp D C xs
unfolding permute
permute_at_lem p t half rp D C xs l = ap (λ (n : ℕ). permute_at p n half rp D C xs) l

pub unpermute_at_lem : (p t half rp : ℕ) (D C ys : List ℕ) → length ys ≡ t → unpermute p half rp D C ys ≡ unpermute_at p t half rp D C ys
unfolding unpermute
unpermute_at_lem p t half rp D C ys l = ap (λ (n : ℕ). unpermute_at p n half rp D C ys) l

pub permute_state : {p : ℕ} → 0 < p → (t half rp : ℕ) (D C xs : List ℕ) → Width t → length xs ≡ t → State p t (permute p half rp D C xs)
unfolding permute_at
permute_state {p} pos t half rp D C xs w l =
    subst (State p t) (sym (permute_at_lem p t half rp D C xs l))
    (full_rounds-state pos w half (drop (t * half + rp) C) _
    (partial_rounds-state pos w (take t D) rp (drop (t * half) C) _
    (full_rounds-state pos w half C (external p xs) (external_state pos w xs l))))

pub sizes : {p : ℕ} → 0 < p → Sizes p
unfolding compress
sizes {p} pos = record {
  permutation = permute_state pos;
  compression = λ t l half rp D C xs w e f.
      let s : State p t (permute p half rp D C xs) = permute_state pos t half rp D C xs w e in
      record {
        width = length-take-le l (add_lists p (permute p half rp D C xs) xs) (omega (arith, add_lists-length p (permute p half rp D C xs) xs));
        words = words_take pos l (add_lists p (permute p half rp D C xs) xs) (add_lists-words pos (permute p half rp D C xs) xs);
      };
}

-- ---- the steps

module _ {p : ℕ} (pos : 0 < p) where
  add-sub : (x c : ℕ) → x < p → sub p (add p x c) c ≡ x
  unfolding same? add sub
  add-sub x c h = rest≈ h (ring p (x ∷ c ∷ []) (rem (var 0 ⊕ var 1) ⊕ neg (var 1)) (var 0) pos tt)

  sub-add : (x c : ℕ) → x < p → add p (sub p x c) c ≡ x
  unfolding same? add sub
  sub-add x c h = rest≈ h (ring p (x ∷ c ∷ []) (rem (var 0 ⊕ neg (var 1)) ⊕ var 1) (var 0) pos tt)

  add_back : (xs cs : List ℕ) → Words p xs → sub_lists p (add_lists p xs cs) cs ≡ xs
  unfolding add_lists sub_lists
  add_back [] cs w = refl
  add_back (x ∷ xs) cs w = cons_eq (add-sub x (get_or cs 0 0) (w.at 0)) (add_back xs (drop 1 cs) (words_tail w))

  add-forth : (ys cs : List ℕ) → Words p ys → add_lists p (sub_lists p ys cs) cs ≡ ys
  unfolding add_lists sub_lists
  add-forth [] cs w = refl
  add-forth (y ∷ ys) cs w = cons_eq (sub-add y (get_or cs 0 0) (w.at 0)) (add-forth ys (drop 1 cs) (words_tail w))

  undo_constants : {t : ℕ} (cs : List ℕ) → Undo p t (add_constants p cs) (λ ys. sub_lists p ys cs)
  unfolding add_constants
  undo_constants cs = record {
    to = λ xs s. record { width = add_lists-length p xs cs ∙ s.width; words = add_lists-words pos xs cs };
    from = λ ys s. record { width = sub_lists-length p ys cs ∙ s.width; words = sub_lists-words pos ys cs };
    back = λ xs s. add_back xs cs s.words;
    forth = λ ys s. add-forth ys cs s.words;
  }

module _ {p : ℕ} (F : PrimeField p) where
  abbrev roots : SeventhRoots p F
  roots = (prime_laws p F).seventh_roots

  positive : 0 < p
  positive = omega (arith, F.fermat.above)

  pow-word : (x : ℕ) → pow p x 7 < p
  unfolding pow
  pow-word x = mod-lt (x ^ 7) positive

  add-word : (x c : ℕ) → add p x c < p
  unfolding add
  add-word x c = mod-lt (x + c) positive

  sub_word : (x c : ℕ) → sub p x c < p
  unfolding sub
  sub_word x c = mod-lt (x + (p - c % p)) positive

  powers_back : (xs : List ℕ) → Words p xs → seventh_roots p (seventh_powers p xs) ≡ xs
  unfolding seventh_powers seventh_roots
  powers_back [] w = refl
  powers_back (x ∷ xs) w = cons_eq (roots.root_of_power x (w.at 0)) (powers_back xs (words_tail w))

  powers_forth : (ys : List ℕ) → Words p ys → seventh_powers p (seventh_roots p ys) ≡ ys
  unfolding seventh_powers seventh_roots
  powers_forth [] w = refl
  powers_forth (y ∷ ys) w = cons_eq (roots.power_of_root y (w.at 0)) (powers_forth ys (words_tail w))

  undo_powers : {t : ℕ} → Undo p t (seventh_powers p) (seventh_roots p)
  unfolding seventh_powers seventh_roots
  undo_powers = record {
    to = λ xs s. record { width = length-map xs (λ x. pow p x 7) ∙ s.width; words = words_map positive (λ x. pow p x 7) pow-word xs };
    from = λ ys s. record { width = length-map ys (seventh_root p) ∙ s.width; words = words_map positive (seventh_root p) roots.word ys };
    back = λ xs s. powers_back xs s.words;
    forth = λ ys s. powers_forth ys s.words;
  }

  -- word 0 alone: the others stay
  undo_first : {t : ℕ} (c : ℕ) → Undo p t (raise_first p c) (unraise_first p c)
  unfolding raise_first unraise_first
  undo_first {t} c = record { to = to; from = from; back = back; forth = forth }
    where
      to : (xs : List ℕ) → State p t xs → State p t (raise_first p c xs)
      to [] s = s
      to (x ∷ xs) s = record { width = s.width; words = words_more positive (pow-word (add p x c)) (words_tail s.words) }

      from : (ys : List ℕ) → State p t ys → State p t (unraise_first p c ys)
      from [] s = s
      from (y ∷ ys) s = record { width = s.width; words = words_more positive (sub_word (seventh_root p y) c) (words_tail s.words) }

      back : (xs : List ℕ) → State p t xs → unraise_first p c (raise_first p c xs) ≡ xs
      back [] s = refl
      back (x ∷ xs) s = cons_eq (ap (λ (y : ℕ). sub p y c) (roots.root_of_power (add p x c) (add-word x c)) ∙ add-sub positive x c (s.words.at 0)) refl

      forth : (ys : List ℕ) → State p t ys → raise_first p c (unraise_first p c ys) ≡ ys
      forth [] s = refl
      forth (y ∷ ys) s = cons_eq (ap (λ (x : ℕ). pow p x 7) (sub-add positive (seventh_root p y) c (roots.word y)) ∙ roots.power_of_root y (s.words.at 0)) refl

  -- ---- the rounds

  module _ {t : ℕ} (ue : Undo p t (external p) (unexternal p)) where
    undo-full_round : (cs : List ℕ) → Undo p t (full_round p cs) (unfull_round p cs)
    unfolding full_round unfull_round
    undo-full_round cs = undo_then (undo_then (undo_constants positive cs) undo_powers) ue

    undo-full_rounds : (n : ℕ) (cs : List ℕ) → Undo p t (full_rounds p t n cs) (unfull_rounds p t n cs)
    unfolding full_rounds unfull_rounds
    undo-full_rounds zero cs = no_undo
    undo-full_rounds (suc n) cs = undo_then (undo-full_round (take t cs)) (undo-full_rounds n (drop t cs))

  module _ {t : ℕ} (D : List ℕ) (ui : Undo p t (internal p D) (uninternal p D)) where
    undo-partial_round : (c : ℕ) → Undo p t (partial_round p D c) (unpartial_round p D c)
    unfolding partial_round unpartial_round
    undo-partial_round c = undo_then (undo_first c) ui

    undo-partial_rounds : (n : ℕ) (cs : List ℕ) → Undo p t (partial_rounds p D n cs) (unpartial_rounds p D n cs)
    unfolding partial_rounds unpartial_rounds
    undo-partial_rounds zero cs = no_undo
    undo-partial_rounds (suc n) cs = undo_then (undo-partial_round (get_or cs 0 0)) (undo-partial_rounds n (drop 1 cs))

  undo_permute : (t half rp : ℕ) (D C : List ℕ) → Width t → AcceptedDiagonal p t (take t D) → Undo p t (permute p half rp D C) (unpermute p half rp D C)
  unfolding permute_at unpermute_at
  undo_permute t half rp D C w a =
      let ue : Undo p t (external p) (unexternal p) = undo_external F (prime_laws p F) t w in
      let ui : Undo p t (internal p (take t D)) (uninternal p (take t D)) = undo_internal (prime_laws p F).inverses F.fermat.above t (take t D) a in
      undo_same (λ xs s. permute_at_lem p t half rp D C xs s.width) (λ ys s. unpermute_at_lem p t half rp D C ys s.width)
      (undo_then (undo_then (undo_then ue (undo-full_rounds ue half C)) (undo-partial_rounds (take t D) ui rp (drop (t * half) C)))
      (undo-full_rounds ue half (drop (t * half + rp) C)))

  pub invertible : Invertible p
  invertible = record {
    external_layer = undo_external F (prime_laws p F);
    internal_layer = undo_internal (prime_laws p F).inverses F.fermat.above;
    permutation = undo_permute;
  }

pub claims : (p : ℕ) (F : PrimeField p) → Claims p F
claims p F = record {
  invertible = invertible F;
  singular = singular (prime_laws p F).inverses F.fermat.above;
  sizes = sizes (positive F);
  on_residues = on_residues_lem p;
}

-- Sums, differences and products modulo prime, and lists of them, are words.
use mathlib.Core.Path.{◌∙◌}
use mathlib.Core.Bool.{Bool, true, false, cond}
use mathlib.Core.List.{List, [], ◌∷◌}
use Prim.Native.Nat.{ℕ, zero, suc, ◌+◌, ◌*◌, ◌-◌, ◌%◌, ◌<◌}
use native.Mathlib.Nat.{mod-lt}
use lib.Dec.{eqb}
use lib.ListN.{take, drop, length-map}
use Rattle.modular.specs.Arithmetic.{sub, mul, seventh_root}
use Rattle.fields.specs.Prime.{prime}
use Rattle.fields.proofs.Prime.{positive, prime_field, prime_laws}
use Rattle.poseidon2.specs.Inverse.{scaled, zeros, zero_place, uninternal_by_sum, uninternal_at_zero, seventh_roots, unexternal, unraise_first, unfull_round, unfull_rounds}
use Rattle.poseidon2.specs.Statements.{Width, Words, State}
use Rattle.poseidon2.proofs.Words.{words_tail, words_none, words_more, words_map, sub_lists-length, sub_lists-words}
use Rattle.poseidon2.proofs.Internal.{by_sum_state, at_zero_state}
use Rattle.poseidon2.proofs.Rounds.{invertible}
use Rattle.inversion.specs.Kept.{uninternal_by, unpartial_round_by, unpartial_rounds_by}

pub mul-word : (a b : ℕ) → mul prime a b < prime
unfolding mul
mul-word a b = mod-lt (a * b) positive

pub sub_word : (a b : ℕ) → sub prime a b < prime
unfolding sub
sub_word a b = mod-lt (a + (prime - b % prime)) positive

pub root_word : (y : ℕ) → seventh_root prime y < prime
root_word y = prime_laws.seventh_roots.word y

pub roots_words : (ys : List ℕ) → Words prime (seventh_roots prime ys)
unfolding seventh_roots
roots_words ys = words_map positive (seventh_root prime) root_word ys

pub unexternal_state : {t : ℕ} {ys : List ℕ} → Width t → State prime t ys → State prime t (unexternal prime ys)
unexternal_state {t} {ys} w s = ((invertible prime_field).external_layer t w).from ys s

pub unfull_round-state : {t : ℕ} {ys : List ℕ} (cs : List ℕ) → Width t → State prime t ys → State prime t (unfull_round prime cs ys)
unfolding unfull_round seventh_roots
unfull_round-state {t} {ys} cs w s =
    let u : State prime t (unexternal prime ys) = unexternal_state w s in
    record {
      width = sub_lists-length prime (seventh_roots prime (unexternal prime ys)) cs ∙ length-map (unexternal prime ys) (seventh_root prime) ∙ u.width;
      words = sub_lists-words positive (seventh_roots prime (unexternal prime ys)) cs;
    }

-- M_I undone gives words, whatever the inverses are
pub uninternal_by-state : {t : ℕ} {ys : List ℕ} (es : List ℕ) (k : ℕ) → State prime t ys → State prime t (uninternal_by prime es k ys)
unfolding uninternal_by
uninternal_by-state {t} {ys} es k s = of (eqb (zeros es) 0)
  where
    of : (b : Bool) → State prime t (cond b (uninternal_by_sum prime es k ys) (uninternal_at_zero prime (zero_place es) es ys))
    of true = by_sum_state positive es k ys s.width
    of false = at_zero_state positive (zero_place es) es ys s.width

first_state : {t : ℕ} (c : ℕ) (ys : List ℕ) → State prime t ys → State prime t (unraise_first prime c ys)
unfolding unraise_first
first_state c [] s = s
first_state c (y ∷ ys) s = record { width = s.width; words = words_more positive (sub_word (seventh_root prime y) c) (words_tail s.words) }

pub unpartial_round_by-state : {t : ℕ} {ys : List ℕ} (es : List ℕ) (k c : ℕ) → State prime t ys → State prime t (unpartial_round_by prime es k c ys)
unfolding unpartial_round_by
unpartial_round_by-state {t} {ys} es k c s = first_state c (uninternal_by prime es k ys) (uninternal_by-state es k s)

-- the rounds keep states
pub unfull_rounds-state : {t : ℕ} (n : ℕ) (cs ys : List ℕ) → Width t → State prime t ys → State prime t (unfull_rounds prime t n cs ys)
unfolding unfull_rounds
unfull_rounds-state zero cs ys w s = s
unfull_rounds-state {t} (suc n) cs ys w s = unfull_round-state (take t cs) w (unfull_rounds-state n (drop t cs) ys w s)

pub unpartial_rounds_by-state : {t : ℕ} (es : List ℕ) (k n : ℕ) (cs ys : List ℕ) → State prime t ys → State prime t (unpartial_rounds_by prime es k n cs ys)
unfolding unpartial_rounds_by
unpartial_rounds_by-state es k zero cs ys s = s
unpartial_rounds_by-state es k (suc n) cs ys s = unpartial_round_by-state es k _ (unpartial_rounds_by-state es k n _ ys s)

pub scaled_words : (k : ℕ) (xs : List ℕ) → Words prime (scaled prime k xs)
unfolding scaled
scaled_words k xs = words_map positive (mul prime k) (mul-word k) xs

pub zero_words : Words prime (0 ∷ 0 ∷ 0 ∷ 0 ∷ [])
zero_words = words_more positive positive (words_more positive positive (words_more positive positive (words_more positive positive (words_none positive))))

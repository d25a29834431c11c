-- The inverse permutation that is handed, in the place of D, the inverse e_i of each D_i, 0 for a 0, and the inverse k of 1 + Σ e_i, as a set
-- keeps them. With D's own it is poseidon2's inverse permutation (`Own`).
use Rattle.std.specs.Prelude.{◌≡◌, cond, List, ℕ, zero, suc, ◌+◌, ◌*◌, ◌%◌, ◌<◌, ◌≤◌, eqb, ltb, length, get_or, take, drop}
use Rattle.poseidon2.specs.Layers.{dot}
use Rattle.poseidon2.specs.Inverse.{inverses, zeros, total_inverse, zero_place, uninternal_by_sum, uninternal_at_zero, unexternal, unraise_first, unfull_rounds, unpermute}
use Rattle.poseidon2.specs.Statements.{Width, Words, State}

-- The sum of the words before M_I, by the place z of the first e_i that is 0, or their number: y_z, or Σ e_i y_i, k times.
unfoldable pub old_sum : ℕ → ℕ → List ℕ → ℕ → List ℕ → ℕ
old_sum p z es k ys = cond (ltb z (length ys)) (get_or ys z 0) (dot es ys * k % p)

-- M_I undone: where no e_i is 0 no D_i is, and a D_z is 0 where e_z is.
unfoldable pub uninternal_by : ℕ → List ℕ → ℕ → List ℕ → List ℕ
uninternal_by p es k ys = cond (eqb (zeros es) 0) (uninternal_by_sum p es k ys) (uninternal_at_zero p (zero_place es) es ys)

unfoldable pub unpartial_round_by : ℕ → List ℕ → ℕ → ℕ → List ℕ → List ℕ
unpartial_round_by p es k c ys = unraise_first p c (uninternal_by p es k ys)

unfoldable pub unpartial_rounds_by : ℕ → List ℕ → ℕ → ℕ → List ℕ → List ℕ → List ℕ
unpartial_rounds_by p es k zero cs ys = ys
unpartial_rounds_by p es k (suc n) cs ys = unpartial_round_by p es k (get_or cs 0 0) (unpartial_rounds_by p es k n (drop 1 cs) ys)

-- The permutation undone, at width t.
unfoldable pub unpermute_by : ℕ → ℕ → ℕ → ℕ → List ℕ → ℕ → List ℕ → List ℕ → List ℕ
unpermute_by p t half rp es k C ys =
    unexternal p
    (unfull_rounds p t half C
    (unpartial_rounds_by p (take t es) k rp (drop (t * half) C)
    (unfull_rounds p t half (drop (t * half + rp) C) ys)))

-- The first n constants are words; of those beyond nothing is asked.
pub record WordsBelow (p n : ℕ) (C : List ℕ) : Type 0 where
  pub at : (i : ℕ) → i < n → get_or C i 0 < p

-- What the inverse permutation is handed besides D: an accepted set's width and numbers of rounds (`half` is R_F/2), its
-- t×R_F + R_P constants, and a state.
pub record UnpermuteInput (p t half rp : ℕ) (C ys : List ℕ) : Type 0 where
  pub width : Width t
  pub some_full : 1 ≤ half
  pub full : half ≤ 6
  pub partial : rp ≤ 64
  pub constants : WordsBelow p (t * (2 * half) + rp) C
  pub state : State p t ys

-- What is claimed: with the inverses of the words of D, and that of 1 plus their sum, it is the inverse permutation.
abbrev pub Own : ℕ → Type 0
Own p =
    (t half rp : ℕ) (D es C ys : List ℕ) → Words p (take t D) → take t es ≡ inverses p (take t D) → length ys ≡ t
    → unpermute_by p t half rp es (total_inverse p (take t D)) C ys ≡ unpermute p half rp D C ys

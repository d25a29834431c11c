-- Equal blocks, the words of a list's first places, and the layers' parts block by block.
use mathlib.Core.Path.{◌≡◌, refl, sym, ap, ap₂, subst, ◌∙◌}
use mathlib.Core.List.{List, [], ◌∷◌, ◌++◌}
use Prim.Native.Nat.{ℕ, suc, ◌+◌, ◌*◌, ◌%◌, ◌^◌, ◌<◌, ◌≤◌}
use native.Mathlib.Nat.{add-zero, mod-mod}
use native.Mathlib.Omega.{arith}
use lib.ListN.{length, get_or, take, drop}
use lib.Seq.{get_or-take, take-take, drop-drop}
use Rattle.modular.specs.Arithmetic.{add, pow}
use Rattle.modular.specs.Congruence.{◌≈⟨◌⟩◌}
use Rattle.modular.proofs.Congruence.{sym≈, trans≈, mod≈, pow≈}
use Rattle.poseidon2.specs.Layers.{add_lists}
use Rattle.poseidon2.specs.Rounds.{add_constants, seventh_powers}
use Rattle.poseidon2.specs.Residues.{residues}
use Rattle.poseidon2.specs.Statements.{Words}
use Rattle.poseidon2.proofs.Words.{cons_eq, words_take}
use Rattle.poseidon2.proofs.Places.{add_at_lem}
use Rattle.blocks.specs.Blocks.{four, flat_from, flat}
use Rattle.blocks.proofs.Each.{flat_by}

pub four_eq : {a b c d e f g h : ℕ} → a ≡ e → b ≡ f → c ≡ g → d ≡ h → a ∷ b ∷ c ∷ d ∷ [] ≡ e ∷ f ∷ g ∷ h ∷ []
four_eq i j k l = cc

pub append_eq : {xs ys zs ws : List ℕ} → xs ≡ ys → zs ≡ ws → xs ++ zs ≡ ys ++ ws
append_eq e f = ap₂ (λ (xs zs : List ℕ). xs ++ zs) e f

pub four_residues : {p a b c d e f g h : ℕ} → a ≈⟨ p ⟩ e → b ≈⟨ p ⟩ f → c ≈⟨ p ⟩ g → d ≈⟨ p ⟩ h
    → residues p (a ∷ b ∷ c ∷ d ∷ []) ≡ residues p (e ∷ f ∷ g ∷ h ∷ [])
unfolding residues
four_residues i j k l = four_eq i.same j.same k.same l.same

-- ---- the first n places

pub first_word : {p : ℕ} (n : ℕ) (xs : List ℕ) (i : ℕ) → Words p (take n xs) → i < n → get_or xs i 0 < p
first_word {p} n xs i w h = subst (λ (x : ℕ). x < p) (get_or-take n xs i 0 h) (w.at i)

pub fewer_words : {p : ℕ} → 0 < p → (m n : ℕ) (xs : List ℕ) → m ≤ n → Words p (take n xs) → Words p (take m xs)
fewer_words {p} pos m n xs h w = subst (Words p) (take-take m n xs h) (words_take pos m (take n xs) w)

-- ---- constants and powers

-- the seventh power of a sum
pub raised : {p w y : ℕ} (x c : ℕ) → w ≈⟨ p ⟩ y ^ 7 → y ≈⟨ p ⟩ x + c → w ≈⟨ p ⟩ pow p (add p x c) 7
unfolding pow add
raised {p} {w} {y} x c h e = trans≈ h (trans≈ (pow≈ (trans≈ e (sym≈ (mod≈ (x + c)))) 7) (sym≈ (mod≈ (((x + c) % p) ^ 7))))

-- four of them, at the constants from place k on
pub raised_four : {p : ℕ} (x r C : List ℕ) (k : ℕ)
    → get_or r 0 0 ≈⟨ p ⟩ pow p (add p (get_or x 0 0) (get_or C k 0)) 7
    → get_or r 1 0 ≈⟨ p ⟩ pow p (add p (get_or x 1 0) (get_or C (k + 1) 0)) 7
    → get_or r 2 0 ≈⟨ p ⟩ pow p (add p (get_or x 2 0) (get_or C (k + 2) 0)) 7
    → get_or r 3 0 ≈⟨ p ⟩ pow p (add p (get_or x 3 0) (get_or C (k + 3) 0)) 7
    → residues p (four r) ≡ seventh_powers p (add_constants p (drop k C) (four x))
unfolding residues seventh_powers add_constants pow
raised_four {p} x r C k e f g h =
    four_eq (word (get_or x 0 0) k k refl e) (word (get_or x 1 0) (k + 1) (suc k) (omega arith) f)
    (word (get_or x 2 0) (k + 2) (suc (suc k)) (omega arith) g) (word (get_or x 3 0) (k + 3) (suc (suc (suc k))) (omega arith) h)
    ∙ ap (seventh_powers p) (sym (add_at_lem p C k (four x)))
  where
    word : {y : ℕ} (a i j : ℕ) → i ≡ j → y ≈⟨ p ⟩ pow p (add p a (get_or C i 0)) 7 → y % p ≡ pow p (add p a (get_or C j 0)) 7
    word a i j n q = q.same ∙ mod-mod (add p a (get_or C i 0) ^ 7) p ∙ ap (λ (m : ℕ). pow p (add p a (get_or C m 0)) 7) n

-- block by block
pub add_lists-append : (p : ℕ) (xs ys cs : List ℕ) → add_lists p xs cs ++ add_lists p ys (drop (length xs) cs) ≡ add_lists p (xs ++ ys) cs
unfolding add_lists
add_lists-append p [] ys cs = refl
add_lists-append p (x ∷ xs) ys cs =
    let n : suc (length xs) ≡ 1 + length xs = omega arith in
    cons_eq refl
    (ap (λ (ds : List ℕ). add_lists p xs (drop 1 cs) ++ add_lists p ys ds) (ap (λ (m : ℕ). drop m cs) n ∙ sym (drop-drop (length xs) 1 cs))
    ∙ add_lists-append p xs ys (drop 1 cs))

raised_more : (p : ℕ) (x xs C : List ℕ) (k : ℕ)
    → seventh_powers p (add_constants p (drop k C) (four x)) ++ seventh_powers p (add_constants p (drop (k + 4) C) xs)
    ≡ seventh_powers p (add_constants p (drop k C) (four x ++ xs))
unfolding seventh_powers add_constants add_lists
raised_more p x xs C k =
    ap (λ (cs : List ℕ). seventh_powers p (add_lists p (four x) (drop k C)) ++ seventh_powers p (add_lists p xs cs)) (sym (drop-drop 4 k C))
    ∙ ap (seventh_powers p) (add_lists-append p (four x) xs (drop k C))

pub raised_all : (p n : ℕ) (xs rs : List (List ℕ)) (C : List ℕ) (at : ℕ)
    → ((k : ℕ) → k < n → residues p (four (get_or rs k [])) ≡ seventh_powers p (add_constants p (drop (at + 4 * k) C) (four (get_or xs k []))))
    → residues p (flat n rs) ≡ seventh_powers p (add_constants p (drop at C) (flat n xs))
unfolding residues seventh_powers add_constants add_lists
raised_all p n xs rs C at e =
    flat_by n (λ i m. residues p (flat_from i m rs) ≡ seventh_powers p (add_constants p (drop (at + 4 * i) C) (flat_from i m xs))) (λ i. refl)
    (λ i m b f.
    let k : at + 4 * suc i ≡ at + 4 * i + 4 = omega arith in
    append_eq (e i b) (f ∙ ap (λ (j : ℕ). seventh_powers p (add_constants p (drop j C) (flat_from (suc i) m xs))) k)
    ∙ raised_more p (get_or xs i []) (flat_from (suc i) m xs) C (at + 4 * i))
    ∙ ap (λ (j : ℕ). seventh_powers p (add_constants p (drop j C) (flat n xs))) (add-zero at)

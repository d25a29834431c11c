-- Text that is put into an output: a byte, and text behind text.
use mathlib.Core.Path.{◌≡◌, ◌∙◌}
use mathlib.Core.List.{List, [], ◌∷◌, ◌++◌, append_assoc}
use Prim.Native.Nat.{ℕ, ◌+◌, ◌≤◌, ◌<◌}
use native.Mathlib.Nat.{add_assoc}
use native.Mathlib.Numerals.{add-one}
use native.Mathlib.Omega.{arith}
use lib.ListN.{length, take, drop, set, length-append}
use lib.Seq.{set_split, drop-drop, take-append_seam, drop-append-add, length-take-le}
use Rattle.merkle.specs.Lists.{put}
use Rattle.merkle.proofs.Lists.{length-put}

-- a byte that is stored
pub put_byte : (xs : List ℕ) (at b : ℕ) → at < length xs → set xs at b ≡ put xs at (b ∷ [])
unfolding put
put_byte xs at b h = rw (set_split xs at b h, add-one)

-- text behind text, by its parts and as it is put
pub behind : (front text rest more : List ℕ) (n : ℕ) → n ≡ length (front ++ text) → put (front ++ (text ++ rest)) n more ≡ front ++ ((text ++ more) ++ drop (length more) rest)
unfolding put
behind front text rest more n e = rw (e, ← append_assoc front text rest, take-append_seam, drop-append-add) (simp append_assoc)

pub put_both : (xs s t : List ℕ) (at : ℕ) → at ≤ length xs → put (put xs at s) (at + length s) t ≡ put xs at (s ++ t)
unfolding put
put_both xs s t at h =
    behind (take at xs) s (drop (at + length s) xs) t (at + length s) (omega (arith, length-append (take at xs) s, length-take-le at xs h))
    ∙ rw (drop-drop, length-append, add_assoc)

-- a byte behind text
pub put_more : (xs text : List ℕ) (at b : ℕ) {a c : List ℕ} {mid : ℕ} → at + length text < length xs
    → mid ≡ at + length text → a ≡ put xs at text → c ≡ set a mid b → c ≡ put xs at (text ++ (b ∷ []))
put_more xs text at b fits m e f =
    f ∙ rw (e, m) (put_byte (put xs at text) (at + length text) b (omega (arith, length-put xs at text (omega arith))))
    ∙ put_both xs text (b ∷ []) at (omega arith)

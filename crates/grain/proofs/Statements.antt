-- What is claimed of the words that are drawn holds.
use mathlib.Core.Path.{◌≡◌, ap, ◌∙◌}
use mathlib.Core.List.{List, ◌++◌}
use Prim.Native.Nat.{ℕ, ◌+◌, ◌-◌, ◌≤◌, ◌<◌}
use native.Mathlib.Omega.{arith}
use lib.ListN.{length, take, drop, length-append}
use lib.Seq.{take-append_seam}
use Rattle.grain.specs.Register.{register, new_bits, after_steps}
use Rattle.grain.specs.Drawing.{kept, complete_numbers, drawn}
use Rattle.grain.specs.Statements.{DrawingClaims}
use Rattle.grain.proofs.Steps.{drop-new_bits, new_bits-add}
use Rattle.grain.proofs.Drawing.{Begins, drawing_begins, words_are}

module _ (p size : ℕ) (some : 0 < size) (t rf rp : ℕ) where
  begins : (n m : ℕ) → n ≤ m → Begins (drawn p size t rf rp n) (drawn p size t rf rp m)
  unfolding drawn
  begins n m h =
      let r : List ℕ = register size t rf rp in
      let s : List ℕ = after_steps 160 r in
      let apart : m - 160 ≡ (n - 160) + ((m - 160) - (n - 160)) = omega arith in
      let more : List ℕ = new_bits ((m - 160) - (n - 160)) (after_steps (n - 160) s) in
      let few : drop 160 (new_bits n r) ≡ new_bits (n - 160) s = drop-new_bits 160 n r in
      let many : drop 160 (new_bits m r) ≡ new_bits (n - 160) s ++ more =
      drop-new_bits 160 m r ∙ ap (λ (k : ℕ). new_bits k s) apart ∙ new_bits-add (n - 160) ((m - 160) - (n - 160)) s in
      rw (few, many) (drawing_begins p size some (new_bits (n - 160) s) more)

pub drawing_claims : DrawingClaims
unfolding drawn
drawing_claims p size some = record {
  begin = λ t rf rp n m h.
      let B = begins p size some t rf rp n m h in
      ap (take (length (drawn p size t rf rp n))) B.is ∙ take-append_seam (drawn p size t rf rp n) B.rest;
  longer = λ t rf rp n m h.
      let B = begins p size some t rf rp n m h in
      omega (arith, ap length B.is, length-append (drawn p size t rf rp n) B.rest);
  words = λ t rf rp n. words_are p (complete_numbers size (kept (drop 160 (new_bits n (register size t rf rp)))));
}

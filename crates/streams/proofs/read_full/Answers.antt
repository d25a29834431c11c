use Rattle.std.proofs.Common.{◌≡◌, ℕ, ◌+◌, ◌-◌, ◌≤◌, List, ◌++◌, rules, length, take, drop, sym, ap, ◌∙◌, subst, le_refl, drop_at, length-take-le}
use Rattle.std.proofs.lemmas.Slice.{take-put_mid_below}
use Rattle.std.specs.Io.KnownBytes.{Consumes}
use Rattle.std.proofs.KnownBytes.{Consumes-trans}
use borrow.Rule.Slice.PartMut.{put_mid, post_of}
use lib.Seq.{take-add, take-append-le}
use Rattle.streams.proofs.read_full.Goals as goal

-- after a read of n bytes to the places from a on
take-filled : (a k n : ℕ) (xs ys : List ℕ) → a ≤ length xs → n ≤ length ys → take (a + n) (put_mid a k xs ys) ≡ take a xs ++ take n ys
take-filled a k n xs ys within fits =
    let filled = put_mid a k xs ys in
    let after = post_of a k xs in
    let behind : drop a filled ≡ ys ++ after = drop_at (take a xs) (ys ++ after) a (length-take-le a xs within) in
    take-add a n filled ∙ ap (λ l. l ++ take n (drop a filled)) (take-put_mid_below a k xs ys a (le_refl a) within) ∙ ap (λ l. take a xs ++ take n l) behind ∙ ap (λ l. take a xs ++ l) (take-append-le n ys after fits)

pub loop-done-preserved : goal.loop-done-preserved
loop-done-preserved g c =
    let now = c.loop-done in
    let filled = take-filled now.done (length now.buffer - now.done) c.in_ok-count.count now.buffer c.read.new.buf now.invariant.within c.in_ok-count.ensures.bound.0 in
    record {
      same_length = search rules;
      within = search rules;
      bytes = subst (Consumes _ _) (sym filled) (Consumes-trans _ _ _ _ _ now.invariant.bytes c.in_ok-count.ensures.bytes.0);
    }

use mathlib.Core.Path.{refl, sym, ap, ◌∙◌}
use native.Mathlib.Omega.{arith}
use lib.ListN.{length, replicate}
use lib.Seq.{length-take-le}
use Rattle.poseidon2.specs.Rounds.{permute}
use Rattle.blocks.proofs.Slices.{width_some, width_small}
use Rattle.fields.specs.Prime.{prime, word_bytes}
use Rattle.fields.proofs.Prime.{positive}
use Rattle.files.proofs.MessageBytes.{head_fits, head_taken}
use Rattle.files.proofs.MessageBlocks.{zero_words, leaf_is}
use Rattle.files.proofs.leaf_of.Goals as goal

pub slice_bounds-head-end : goal.slice_bounds-head-end
slice_bounds-head-end c =
    omega (arith, c.put_head-end.ensures.value, head_fits (length c.args.contents.now) c.requires.6)

pub slice_bounds-absorb-end : goal.slice_bounds-absorb-end
slice_bounds-absorb-end c =
    let h = c.put_head-end in
    sym (length-take-le _ _ (omega (arith, h.ensures.value, h.auto.head, head_fits (length c.args.contents.now) c.requires.6)))

pub absorb-requires : goal.absorb-requires
absorb-requires c =
    let h = c.put_head-end in
    let n = length c.args.contents.now in
    let head = head_taken (replicate 16 0) n refl c.requires.6 h.ensures.value h.ensures.head_after in
    let fits = width_small c.args.width c.requires.0 (omega arith) in (
      c.requires.0,
      c.requires.2,
      c.requires.3,
      c.requires.4,
      c.requires.5,
      omega (arith, c.requires.1, width_some c.requires.0),
      omega arith,
      head,
      omega (arith, ap length head, head_fits n c.requires.6),
      c.requires.6,
      length-take-le _ _ fits,
      zero_words positive c.args.width 12 fits,
    )

pub returns : goal.returns
returns c =
    let a = c.args in
    let fits = width_small a.width c.requires.0 (omega arith) in
    let r = c.absorb in
    leaf_is prime word_bytes a.width a.node_size 12 (permute prime a.half a.partial_rounds a.diagonal.now a.constants.now) a.contents.now a.leaf.now
    (omega (arith, c.requires.1)) fits c.requires.7 (r.auto.state ∙ length-take-le _ _ fits) r.ensures c.copy_words.ensures

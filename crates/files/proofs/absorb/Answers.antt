use mathlib.Core.Path.{◌≡◌, sym, ap, ap₂, ◌∙◌}
use Prim.Native.Nat.{ℕ, ◌+◌, ◌*◌, ◌/◌, ◌<◌}
use native.Mathlib.Omega.{arith}
use lib.ListN.{length}
use Rattle.poseidon2.specs.Rounds.{permute}
use Rattle.poseidon2.proofs.Rounds.{permute_state}
use Rattle.blobs.specs.Blob.{message, file_words}
use Rattle.blobs.specs.Absorption.{absorb}
use Rattle.blobs.proofs.FileWords.{block_count, block_count_lem}
use Rattle.fields.specs.Prime.{prime, word_bytes}
use Rattle.fields.proofs.Prime.{positive, word_bytes_lem}
use Rattle.files.proofs.MessageBytes.{marked}
use Rattle.files.proofs.MessageBlocks.{block_from, message_length, block_of_file, absorbed_none, absorbed_block}
use Rattle.files.proofs.absorb.Goals as goal
use Rattle.files.proofs.absorb.Goals.{After-word_bytes, In-loop-n}

pub loop-n-init : goal.loop-n-init
loop-n-init c =
    absorbed_none (record { width = c.requires.10; words = c.requires.11 })

-- the blocks are the file's
blocks-are : (c : After-word_bytes)
    → (length c.args.head.now + length c.args.contents.now) / (c.word_bytes.result * c.args.rate) + 1
    ≡ block_count word_bytes c.args.rate (length (message c.args.contents.now))
blocks-are c =
    ap₂ (λ (n b : ℕ). n / (b * c.args.rate) + 1) (message_length c.args.head.now c.args.contents.now c.requires.7) c.word_bytes.ensures

pub loop-n-preserved : goal.loop-n-preserved
loop-n-preserved c =
    let a = c.args in
    let bytes = marked a.head.now a.contents.now in
    let here : c.loop-n.n < block_count word_bytes a.rate (length (message a.contents.now)) = omega (arith, c.loop-n-test.true, blocks-are (goal.at.loop-n-preserved c).After-word_bytes) in
    let block = ap (λ (k : ℕ). block_from word_bytes a.rate (k * a.rate * c.loop-n.n) bytes) c.word_bytes.ensures
    ∙ block_of_file a.head.now a.contents.now c.requires.7 word_bytes a.rate word_bytes_lem.some c.requires.5 c.loop-n.n here in
    let long = c.add_block.auto.state ∙ c.loop-n.invariant.words_of.width in
    absorbed_block c.loop-n.n c.loop-n.state here c.loop-n.invariant block c.add_block.ensures c.permute.ensures
    (permute_state positive a.width a.half a.partial_rounds a.diagonal.now a.constants.now _ c.requires.0 long)

pub returns : goal.returns
returns c =
    let a = c.args in
    let f = permute prime a.half a.partial_rounds a.diagonal.now a.constants.now in
    let words = file_words word_bytes a.rate a.contents.now in
    let all : c.loop-n.n ≡ block_count word_bytes a.rate (length (message a.contents.now)) = omega (arith, c.loop-n-test.false, c.loop-n.invariant.within, blocks-are (goal.at.returns c).After-word_bytes) in
    c.loop-n.invariant.is
    ∙ ap (λ (k : ℕ). absorb prime a.rate f k words a.state.now) (all ∙ sym (block_count_lem word_bytes a.rate word_bytes_lem.some c.requires.5 a.contents.now))

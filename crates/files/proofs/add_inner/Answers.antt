use mathlib.Core.Path.{◌≡◌, sym, ap, ◌∙◌}
use Prim.Native.Nat.{ℕ, ◌+◌, ◌*◌, ◌^◌, ◌<◌}
use native.Mathlib.Nat.{zero-add}
use native.Mathlib.Omega.{arith}
use lib.ListN.{take, drop}
use mathlib.Core.Bool.{true}
use Rattle.modular.specs.Arithmetic.{all_words}
use Rattle.modular.proofs.Words.{words_by}
use Rattle.octets.specs.Numbers.{little_endian}
use Rattle.fields.specs.Prime.{word_bytes}
use Rattle.fields.proofs.Prime.{bytes_few}
use Rattle.files.proofs.MessageBytes.{read_at_once}
use Rattle.files.proofs.MessageBlocks.{added_none, untouched, added_word}
use Rattle.files.proofs.add_inner.Goals as goal
use Rattle.files.proofs.add_inner.Goals.{After-low_bytes-word, In-loop-i}

-- the word that is read
word : (c : After-low_bytes-word) → all_words 256 c.args.bytes.now ≡ true
    → (c.low_bytes-word.result ≡ little_endian (take word_bytes (drop (c.word_bytes-size.result * c.loop-i.i) c.args.bytes.now))) × (c.low_bytes-word.result < 256 ^ word_bytes)
word c bytes =
    let a = c.args in
    read_at_once word_bytes (c.word_bytes-size.result * c.loop-i.i) a.bytes.now
    bytes
    bytes_few c.number_of.ensures c.word_bytes-size.ensures c.low_bytes-word.ensures

pub added-requires : goal.added-requires
added-requires c =
    let own = untouched c.loop-i.i c.loop-i.state (omega (arith, c.requires.0)) c.loop-i.invariant in
    (omega (arith, own, c.requires.3.at c.loop-i.i), (word (goal.at.added-requires c).After-low_bytes-word (words_by 256 c.args.bytes.now (λ i _. omega (arith, c.type_inv.bytes i)))).1)

pub loop-i-preserved : goal.loop-i-preserved
loop-i-preserved c =
    let place : c.word_bytes-size.result * c.loop-i.i ≡ 0 + word_bytes * c.loop-i.i =
    ap (λ (b : ℕ). b * c.loop-i.i) c.word_bytes-size.ensures ∙ sym (zero-add (word_bytes * c.loop-i.i)) in
    added_word c.loop-i.i c.loop-i.state (omega arith) c.requires.0 c.loop-i.invariant
    ((word (goal.at.loop-i-preserved c).After-low_bytes-word (words_by 256 c.args.bytes.now (λ i _. omega (arith, c.type_inv.bytes i)))).0 ∙ ap (λ (k : ℕ). little_endian (take word_bytes (drop k c.args.bytes.now))) place)
    c.added.ensures

pub loop-i-init : goal.loop-i-init
loop-i-init c = added_none

use lib.ListN.{length}
use Rattle.poseidon2.specs.Rounds.{permute}
use Rattle.blobs.specs.Blob.{message, file_words}
use Rattle.blobs.proofs.FileWords.{block_count}
use Rattle.fields.specs.Prime.{prime, word_bytes}
use Rattle.files.proofs.MessageBlocks.{Absorbed}
use Rattle.files.proofs.absorb.Given as goal

abbrev pub invariant-loop-n : goal.invariant-loop-n
invariant-loop-n l = Absorbed prime l.width l.rate (block_count word_bytes l.rate (length (message l.contents))) (permute prime l.half l.partial_rounds l.diagonal l.constants) (file_words word_bytes l.rate l.contents) l.initial.state l.n l.state

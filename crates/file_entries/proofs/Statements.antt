-- What is claimed of files under an accepted set holds.
use Prim.Native.Nat.{◌-◌, ◌/◌}
use native.Mathlib.Omega.{arith}
use Rattle.parameters.specs.ParameterSet.{prime_of, word_bytes_of}
use Rattle.poseidon2.proofs.Rounds.{permute_state}
use Rattle.fields.proofs.Prime.{positive, word_bytes_lem}
use Rattle.blobs.proofs.Absorption.{leaf_state}
use Rattle.blobs.proofs.Statements.{claims}
use Rattle.state_entries.specs.Permutation.{permute_under}
use Rattle.file_entries.specs.Files.{file_words_under, file_leaf_under}
use Rattle.file_entries.specs.Statements.{FileClaims}
use Rattle.file_entries.proofs.AcceptedFiles.{accepted_set}

pub file_claims : FileClaims
unfolding file_words_under file_leaf_under permute_under
file_claims s unrefused =
    let A = accepted_set s unrefused in
    let W = claims.files (word_bytes_of s) (s.width - s.node_size) word_bytes_lem.some (omega (arith, A.node_below)) in
    record {
      apart = W.apart;
      words = W.words (prime_of s) word_bytes_lem.fit;
      whole = W.whole;
      some = W.some;
      leaf = λ xs. leaf_state positive s.width (permute_under s)
          (λ ys long. permute_state positive s.width (s.full_rounds / 2) s.partial_rounds s.diagonal s.constants ys A.width long)
          (word_bytes_of s) s.node_size xs (omega (arith, A.node_below));
    }

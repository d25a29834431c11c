-- What is claimed of files and their words holds.
use Rattle.blobs.specs.Statements.{Claims}
use Rattle.blobs.proofs.Padding.{fewest}
use Rattle.blobs.proofs.FileWords.{words_apart, words_are, words_whole, words_some}

pub claims : Claims
claims = record {
  padding = fewest;
  files = λ size rate pos some. record {
    apart = words_apart size rate pos some;
    words = words_are size rate;
    whole = words_whole size rate pos some;
    some = words_some size rate pos some;
  };
}

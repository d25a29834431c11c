-- The worked cases of Rules 9 that are marked *, in one list, and the claim that all of them hold.
use Rattle.std.specs.Prelude.{◌≡◌, List, [], ◌∷◌, ◌++◌, ℕ, ◌+◌, ◌-◌, ◌^◌}
use Rattle.modular.specs.Arithmetic.{sub, mul, pow, inverse}
use Rattle.refusals.specs.Table.{first_refusal}
use Rattle.fields.specs.Prime.{prime, word_bytes}
use Rattle.poseidon2.specs.Layers.{m4, external, sums, m4_blocks, internal}
use Rattle.poseidon2.specs.Rounds.{permute}
use Rattle.poseidon2.specs.Compression.{compress}
use Rattle.poseidon2.specs.Inverse.{uninternal}
use Rattle.parameters.specs.Refusals.{diagonal_refusals}
use Rattle.merkle.specs.Above.{nodes_above}
use Rattle.merkle.specs.Levels.{Shape, build, root}
use Rattle.trees.specs.Shapes.{shape}
use Rattle.blobs.specs.Blob.{message, file_words}

-- What the definitions give, and what Rules 9 says.
pub record Case : Type 0 where
  pub given : List ℕ
  pub said : List ℕ

abbrev case : List ℕ → List ℕ → Case
case g s = record { given = g; said = s }

abbrev pub field_cases : List Case
field_cases =
    case (mul prime (prime - 1) (prime - 1) ∷ []) (1 ∷ []) ∷
    case (mul prime (2 ^ 32) (2 ^ 32) ∷ []) (4294967295 ∷ []) ∷
    case (mul prime (2 ^ 48) (2 ^ 48) ∷ []) ((prime - 1) ∷ []) ∷
    case (mul prime prime prime ∷ mul prime (prime + 1) (prime - 1) ∷ mul prime (2 ^ 64 - 1) (2 ^ 64 - 1) ∷ []) (0 ∷ (prime - 1) ∷ (prime - 12884901885) ∷ []) ∷
    case (pow prime prime 0 ∷ pow prime prime 1 ∷ pow prime (prime + 2) 7 ∷ []) (1 ∷ 0 ∷ 128 ∷ []) ∷
    case (sub prime 0 1 ∷ []) ((prime - 1) ∷ []) ∷
    case (inverse prime 2 ∷ []) (9223372034707292161 ∷ []) ∷ []

-- D and C of the set T.
abbrev pub t_diagonal : List ℕ
t_diagonal = 1 ∷ 2 ∷ 3 ∷ 4 ∷ []

abbrev pub t_constants : List ℕ
t_constants = 0 ∷ 0 ∷ 0 ∷ 0 ∷ (prime - 505316) ∷ (prime - 410806) ∷ (prime - 127289) ∷ (prime - 94519) ∷ []

-- C of the set U, whose D is T's.
abbrev pub u_constants : List ℕ
u_constants = 0 ∷ 0 ∷ 0 ∷ 0 ∷ (prime - 505316) ∷ (prime - 632615) ∷ (prime - 1454227) ∷ (prime - 1014482) ∷ (prime - 1010691) ∷ []

abbrev one : List ℕ
one = 1 ∷ 0 ∷ 0 ∷ 0 ∷ []

-- Under T and U half of R_F is 1.
abbrev pub permutation_cases : List Case
permutation_cases =
    case (m4 prime one) (5 ∷ 4 ∷ 1 ∷ 1 ∷ []) ∷
    case (external prime (1 ∷ 0 ∷ 0 ∷ 0 ∷ 0 ∷ 0 ∷ 0 ∷ 0 ∷ [])) (10 ∷ 8 ∷ 2 ∷ 2 ∷ 5 ∷ 4 ∷ 1 ∷ 1 ∷ []) ∷
    case (sums prime (1 ∷ 0 ∷ 0 ∷ 0 ∷ 0 ∷ 0 ∷ 0 ∷ 0 ∷ [])) (2 ∷ 0 ∷ 0 ∷ 0 ∷ 1 ∷ 0 ∷ 0 ∷ 0 ∷ []) ∷
    case (m4_blocks prime (2 ∷ 0 ∷ 0 ∷ 0 ∷ 1 ∷ 0 ∷ 0 ∷ 0 ∷ [])) (10 ∷ 8 ∷ 2 ∷ 2 ∷ 5 ∷ 4 ∷ 1 ∷ 1 ∷ []) ∷
    case (sums prime (1 ∷ 2 ∷ 3 ∷ 4 ∷ 5 ∷ 6 ∷ 7 ∷ 8 ∷ 9 ∷ 10 ∷ 11 ∷ 12 ∷ [])) (16 ∷ 20 ∷ 24 ∷ 28 ∷ 20 ∷ 24 ∷ 28 ∷ 32 ∷ 24 ∷ 28 ∷ 32 ∷ 36 ∷ []) ∷
    case (sums prime (1 ∷ 2 ∷ 3 ∷ 4 ∷ [])) (1 ∷ 2 ∷ 3 ∷ 4 ∷ []) ∷
    case (internal prime t_diagonal one) (2 ∷ 1 ∷ 1 ∷ 1 ∷ []) ∷
    case (permute prime 1 0 t_diagonal t_constants one) (5 ∷ 4 ∷ 1 ∷ 1 ∷ []) ∷
    case (compress prime 2 1 0 t_diagonal t_constants one) (6 ∷ 4 ∷ []) ∷
    case (permute prime 1 1 t_diagonal u_constants one) (5 ∷ 4 ∷ 1 ∷ 1 ∷ []) ∷
    case (compress prime 2 1 1 t_diagonal u_constants one) (6 ∷ 4 ∷ []) ∷ []

-- D and C of the set V, and a D with two zeros.
abbrev pub v_diagonal : List ℕ
v_diagonal = 0 ∷ 1 ∷ 2 ∷ 3 ∷ []

abbrev pub v_constants : List ℕ
v_constants = 0 ∷ 0 ∷ 0 ∷ 0 ∷ (prime - 505316) ∷ (prime - 632614) ∷ (prime - 1043421) ∷ (prime - 887193) ∷ (prime - 916172) ∷ []

abbrev two_zeros : List ℕ
two_zeros = 0 ∷ 1 ∷ 0 ∷ 3 ∷ []

-- Under V, M_I and its inverse, the permutation and the compression; two states that M_I merges where D has two zeros; and of refusals 8
-- and 9 the one that applies, or 0: with one zero, with two, and with one where 1 and the inverses of the others add up to 0.
abbrev pub zero_cases : List Case
zero_cases =
    case (internal prime v_diagonal (4 ∷ 3 ∷ 2 ∷ 1 ∷ [])) (10 ∷ 13 ∷ 14 ∷ 13 ∷ []) ∷
    case (uninternal prime v_diagonal (10 ∷ 13 ∷ 14 ∷ 13 ∷ [])) (4 ∷ 3 ∷ 2 ∷ 1 ∷ []) ∷
    case (permute prime 1 1 v_diagonal v_constants one) (5 ∷ 4 ∷ 1 ∷ 1 ∷ []) ∷
    case (compress prime 2 1 1 v_diagonal v_constants one) (6 ∷ 4 ∷ []) ∷
    case (internal prime two_zeros one) (1 ∷ 1 ∷ 1 ∷ 1 ∷ []) ∷
    case (internal prime two_zeros (0 ∷ 0 ∷ 1 ∷ 0 ∷ [])) (1 ∷ 1 ∷ 1 ∷ 1 ∷ []) ∷
    case (first_refusal (diagonal_refusals prime v_diagonal) ∷ []) (0 ∷ []) ∷
    case (first_refusal (diagonal_refusals prime two_zeros) ∷ []) (8 ∷ []) ∷
    case (first_refusal (diagonal_refusals prime (0 ∷ (prime - 3) ∷ (prime - 3) ∷ (prime - 3) ∷ [])) ∷ []) (0 ∷ []) ∷ []

-- The tree of T, and the root of the leaves 1, 0 and 0, 0.
abbrev pub t_tree : Shape
t_tree = shape prime 4 2 1 0 t_diagonal t_constants

abbrev pub tree_cases : List Case
tree_cases = case (root t_tree (build t_tree 1 one)) (6 ∷ 4 ∷ []) ∷ []

-- How many different nodes stand above listed places: under T, and with k = 2, h = 3; k = 4, h = 2; and h = 0.
abbrev pub count_cases : List Case
count_cases =
    case (nodes_above 2 1 (1 ∷ 0 ∷ []) ∷ []) (1 ∷ []) ∷
    case (nodes_above 2 3 (5 ∷ []) ∷ []) (3 ∷ []) ∷
    case (nodes_above 2 3 (0 ∷ 1 ∷ []) ∷ []) (3 ∷ []) ∷
    case (nodes_above 2 3 (7 ∷ 0 ∷ []) ∷ []) (5 ∷ []) ∷
    case (nodes_above 2 3 (0 ∷ 1 ∷ 2 ∷ 3 ∷ 4 ∷ 5 ∷ 6 ∷ 7 ∷ []) ∷ []) (7 ∷ []) ∷
    case (nodes_above 4 2 (0 ∷ 15 ∷ 3 ∷ []) ∷ []) (3 ∷ []) ∷
    case (nodes_above 2 0 (0 ∷ []) ∷ []) (0 ∷ []) ∷ []

-- `hello` and a newline
abbrev pub hello : List ℕ
hello = 104 ∷ 101 ∷ 108 ∷ 108 ∷ 111 ∷ 10 ∷ []

-- The message of the empty file, and the words of two files where t - l is 2.
abbrev pub file_cases : List Case
file_cases =
    case (message []) (98 ∷ 108 ∷ 111 ∷ 98 ∷ 32 ∷ 48 ∷ 0 ∷ []) ∷
    case (file_words word_bytes 2 []) (52915648556130 ∷ 1 ∷ []) ∷
    case (file_words word_bytes 2 hello) (59512718322786 ∷ 292948653401448 ∷ []) ∷ []

abbrev pub starred : List Case
starred = field_cases ++ (permutation_cases ++ (zero_cases ++ (tree_cases ++ (count_cases ++ file_cases))))

abbrev pub AllHold : List Case → Type 0
AllHold [] = Unit {0}
AllHold (c ∷ cs) = (c.given ≡ c.said) × AllHold cs

abbrev pub Worked : Type 0
Worked = AllHold starred

-- Texts: how long a number in decimal is, lines of numbers, and a text at the start of the output.
use mathlib.Core.Path.{◌≡◌, refl, sym, ap, ◌∙◌}
use mathlib.Core.List.{List, [], ◌∷◌, ◌++◌, append_assoc}
use Prim.Native.Nat.{ℕ, ◌+◌, ◌≤◌, ◌<◌}
use native.Mathlib.Nat.{zero-add}
use native.Mathlib.Numerals.{add-one}
use native.Mathlib.Omega.{arith}
use lib.ListN.{length, take, drop, get_or, length-append}
use lib.Seq.{take-suc, drop-drop}
use Rattle.octets.specs.Numbers.{decimal}
use Rattle.octets.proofs.Decimal.{decimal_length}
use Rattle.merkle.specs.Lists.{put}
use Rattle.encoding.proofs.Texts.{behind}
use Rattle.program.specs.Program.{newline, lines, written}

pub decimal_word : (n : ℕ) → n < 18446744073709551616 → length (decimal n) ≤ 20
decimal_word n h = decimal_length 19 n (omega arith)

pub decimal_byte : (n : ℕ) → n < 256 → length (decimal n) ≤ 3
decimal_byte n h = decimal_length 2 n (omega arith)

-- A number and a newline; one such line more.
abbrev pub line : ℕ → List ℕ
line n = decimal n ++ (newline ∷ [])

pub line_length : (n : ℕ) → length (line n) ≡ length (decimal n) + 1
line_length n = length-append (decimal n) (newline ∷ [])

pub lines_more : (ws : List ℕ) (i : ℕ) → i < length ws → lines (take (i + 1) ws) ≡ lines (take i ws) ++ line (get_or ws i 0)
unfolding lines
lines_more ws i h = rw (add-one, take-suc ws i 0) (lines_snoc (take i ws) (get_or ws i 0))
  where
    lines_snoc : (xs : List ℕ) (w : ℕ) → lines (xs ++ (w ∷ [])) ≡ lines xs ++ line w
    lines_snoc [] w = refl
    lines_snoc (x ∷ xs) w = ap (λ (ys : List ℕ). decimal x ++ (newline ∷ ys)) (lines_snoc xs w) ∙ sym (append_assoc (decimal x) (newline ∷ lines xs) (line w))

pub lines_longer : (ws : List ℕ) (i : ℕ) → i < length ws → length (lines (take (i + 1) ws)) ≡ length (lines (take i ws)) + length (line (get_or ws i 0))
lines_longer ws i h = ap length (lines_more ws i h) ∙ length-append (lines (take i ws)) (line (get_or ws i 0))

-- A text at the start, and more behind it.
pub written_put : (old text : List ℕ) → put old 0 text ≡ written text old
unfolding put written
written_put old text = rw zero-add

pub written_more : (old text more : List ℕ) {at : ℕ} {a b : List ℕ} → at ≡ length text → a ≡ written text old → b ≡ put a at more → b ≡ written (text ++ more) old
unfolding written
written_more old text more n e f =
    let rest : drop (length more) (drop (length text) old) ≡ drop (length (text ++ more)) old = rw (drop-drop, length-append) in
    f ∙ rw (e, n) (behind [] text (drop (length text) old) more (length text) refl) ∙ ap (λ (xs : List ℕ). (text ++ more) ++ xs) rest

pub record Says (text old : List ℕ) (r : ℕ) (out : List ℕ) : Type 0 where
  pub value : r ≡ length text
  pub output_after : out ≡ written text old

pub written_as : {text other : List ℕ} → text ≡ other → {r : ℕ} {out : List ℕ} (old : List ℕ) → r ≡ length text → out ≡ written text old
    → Says other old r out
written_as e old n o = record { value = n ∙ ap length e; output_after = o ∙ ap (λ (xs : List ℕ). written xs old) e }

-- a text is no longer than the output that has it
pub written_fits : (text old : List ℕ) {r : ℕ} {out : List ℕ} → r ≡ length text → out ≡ written text old → r ≤ length out
unfolding written
written_fits text old n e = omega (arith, n, ap length e, length-append text (drop (length text) old))

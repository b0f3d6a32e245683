-- Where a line that begins at byte `used` of a text ends, and what is left after it.
use Rattle.std.proofs.Common.{◌≡◌, ℕ, ◌+◌, ◌≤◌, List, [], ◌∷◌, length, get_or, drop, Ok, sym, ap, ◌∙◌, arith}
use Rattle.std.proofs.lemmas.List.{length-drop, drop-drop}
use Rattle.text.specs.Lines.{line_of}
use Rattle.text.specs.Split.{split}
use Rattle.text.proofs.FirstLines.{line_after}
use Rattle.definitions.specs.Steps.{line_end}

module _ (n used : ℕ) (text l : List ℕ) (first : line_of n (split 10 (drop used text)) ≡ Ok l) where
  pub line_within : used + length l + 1 ≤ length text
  line_within = omega (arith, (line_after n (drop used text) l first).within, length-drop used text)

  pub line_ends : used + length l + 1 ≡ line_end text used
  line_ends = ap (λ p. used + length p + 1) (sym (ap (λ ps. get_or ps 0 []) (line_after n (drop used text) l first).parts))

  pub line_rest : split 10 (drop used text) ≡ l ∷ split 10 (drop (used + length l + 1) text)
  line_rest =
      (line_after n (drop used text) l first).parts
      ∙ ap (λ xs. l ∷ split 10 xs) (drop-drop (length l + 1) used text ∙ ap (λ k. drop k text) (let e : used + (length l + 1) ≡ used + length l + 1 = omega arith in e))

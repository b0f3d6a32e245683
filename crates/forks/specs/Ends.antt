-- What the time of a call makes of rows: each stays, or ends with its line.
use Rattle.std.specs.Prelude.{◌≡◌, ℕ, ◌↔◌, List, ◌∷◌, map, Some}
use Rattle.std.specs.List.{AllByRecursion}
use Rattle.kinds.specs.Ordered.{Ordered}
use Rattle.kinds.specs.declared.bound.Bound.{Bound}
use Rattle.kinds.specs.declared.kind.Kind.{Ghosts as Meaning}
use Rattle.law.specs.Histories.{Act, Loading, loading_of}
use Rattle.law.specs.Holding.{width, Choice, HeldIn, Held}
use Rattle.law.specs.Steps.{Buried}
use Rattle.law.specs.Telling.{Reads}
use Rattle.law.specs.Tests.{ClosedBy}
use Rattle.report.specs.declared.line.Line.{Line}
use Rattle.report.specs.Lines.{line_of}
use Rattle.forks.specs.declared.row.Row.{Row}
use Rattle.forks.specs.Rows.{row_of, InLoading}

module _ {G : Type 0} (group : Ordered G) (a : List (Act G)) where
  -- after the next call, at x, a choice made before it is held as the time alone decides
  abbrev pub PassesTo : Act G → G → Type 0
  PassesTo act x = (s : ℕ) (l : Loading G) (k : List ℕ) → loading_of s a ≡ Some l → Choice l k → HeldIn group l (Some x) k ↔ Held group (act ∷ a) s k

  -- the bounds of what is loaded can be closed
  abbrev pub Closable : Type 0
  Closable = (s : ℕ) (l : Loading G) → loading_of s a ≡ Some l → (closed : ℕ → ℕ → Bound G) × ClosedBy group l.chronicle closed (width l)

module _ {K : Type 0} (kind : Meaning K) where
  -- the rows held after the calls a, before the next call, at x
  pub record Before (a : List (Act kind.G)) (act : Act kind.G) (x : kind.G) (rows : List (Row K)) : Type 0 where
    pub closable : Closable kind.group a
    pub passes : PassesTo kind.group a act x
    pub reads : Reads kind.group a (map row_of rows)
    pub standing : AllByRecursion (InLoading kind a) rows

  -- of the rows seen so far, those kept stay at x, and the lines of the others went from the sink l to l'
  pub record Settles {L : Type 0} (took : L → List (Line K) → L → Type 0) (x : kind.G) (rows seen kept : List (Row K)) (l l' : L) : Type 0 where
    pub dead : List (Line K)
    pub told : took l dead l'
    pub buried : (a : List (Act kind.G)) (act : Act kind.G) → Before a act x rows → Buried kind.group a act (map row_of seen) (map row_of kept) (map (line_of kind.value) dead)
    pub standing : (a : List (Act kind.G)) (act : Act kind.G) → Before a act x rows → AllByRecursion (InLoading kind a) kept

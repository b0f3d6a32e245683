use Rattle.std.proofs.Common.{◌+◌, refl}
use Rattle.law.specs.Histories.{now_of, event_count}
use Rattle.law.proofs.Forks.{comes_from_before}
use Rattle.law.proofs.Numbers.{numbered-at}
use Rattle.law.proofs.theorems.new_rows_from_old.Goals as goal

pub returns : goal.returns
returns g c s h l is_some e later =
    comes_from_before g.K.Kind.group l (now_of h) (record { number = event_count h + 1; seen = e }) (event_count h) (numbered-at s h l is_some) refl later

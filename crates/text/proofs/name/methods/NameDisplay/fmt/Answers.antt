use Rattle.std.proofs.Common.{sym, subst}
use Rattle.std.specs.Str.{IsUtf8}
use Rattle.text.proofs.Results.{ok_unless}
use Rattle.text.proofs.Spellings.{spelled_utf8}
use Rattle.text.proofs.name.methods.NameDisplay.fmt.Goals as goal

pub unwrap-requires : goal.unwrap-requires
unwrap-requires g c = ok_unless _ _ _ c.from_utf8.ensures.cases (λ e h. h.0 (subst IsUtf8 (sym c.as_bytes.ensures) (spelled_utf8 c.args.self.now)))

-- `sealing_stream::first` meets its contract: the words are those of a walk at the start of their keystream.
-- Assumes nothing.
use mathlib.Core.Path.{sym, subst}
use Rattle.command.specs.Decode.{number_of}
use Rattle.sealing_stream.specs.declared.Found.{Found}
use Rattle.sealing_stream.specs.OnWords.{Finds}
use Rattle.sealing_stream.proofs.OnWords.{finds-first}
use Rattle.sealing_stream.proofs.on_words.first.Goals as goal

pub returns : goal.returns
returns c =
    subst (λ (f : Found). Finds (number_of c.args.c) c.args.w.now f.t f.a c.copy_from_slice.new.self) (sym c.unwrap_or.ensures)
    (finds-first _ _ _ _ _ _ c.walk_at-walk.ensures c.copy_from_slice.ensures.after c.requires c.first-found.ensures)

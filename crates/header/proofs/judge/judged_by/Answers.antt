-- What the reader gives of a whole header is the number in each field, and the definition reads the same fields.
use mathlib.Core.Path.{◌∙◌}
use Rattle.header.specs.Read.{fixed_of}
use Rattle.reader.proofs.Serving.{numbers_are}
use Rattle.header.proofs.judge.judged_by.Goals as goal

pub returns : goal.returns
unfolding fixed_of
returns c =
    let read = c.read_fields-n.ensures ∙ numbers_are _ c.requires in
    λ i.
    record {
      order = (read i).order;
      major = (read i).major;
      shift = (read i).shift;
      mini = (read i).mini;
      dirs = (read i).dirs;
      cutoff = (read i).cutoff;
    }

-- What the reader gives of a whole header is the number in each field, and the definition reads the same fields.
use mathlib.Core.Path.{◌∙◌, ap}
use Rattle.header.specs.Versions.{version_of}
use Rattle.header.specs.Read.{dirs_of, end_if_free, header_of}
use Rattle.reader.specs.declared.Numbers.{Numbers}
use Rattle.reader.proofs.Serving.{numbers_are}
use Rattle.header.proofs.content.content.Goals as goal

pub returns : goal.returns
unfolding header_of
returns c =
    let read = c.read_fields-n.ensures ∙ numbers_are _ c.requires in
    λ i.
    record {
      version = (c.version_of.ensures ∙ ap (λ (n : Numbers). version_of n.major) read) i;
      dirs = (c.dirs_of.ensures ∙ ap (λ (n : Numbers). dirs_of n.major n.dirs) read) i;
      fats = (read i).fats;
      dir = (read i).dir;
      minifat = (read i).minifat;
      minifats = (read i).minifats;
      difat = (c.end_if_free.ensures ∙ ap (λ (n : Numbers). end_if_free n.difat) read) i;
      difats = (read i).difats;
      list = c.read_list-list.ensures i;
    }

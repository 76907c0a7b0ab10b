-- Nothing is lost at the library's edge: a header comes back from its words. Assumes nothing.
use mathlib.Core.Path.{◌≡◌, refl}
use Rattle.header.specs.Versions.{major_of, version_of}
use Rattle.header.specs.declared.Version.{Version}
use Rattle.header.specs.declared.Version.TheVariants.{V3, V4}
use Rattle.header.specs.declared.Header.{Header}
use Rattle.layout.specs.Layout.{words_of, header_with, header_from}

-- every header is the one that its words hold
pub header_again : (h : Header) → header_from (words_of h) ≡ h
unfolding header_from header_with words_of version_of
header_again h = version_again h.version
  where
    version_again : (v : Version) → header_with (version_of (major_of v)) (words_of h) ≡ header_with v (words_of h)
    version_again V3 = refl
    version_again V4 = refl

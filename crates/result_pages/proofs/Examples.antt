-- Texts as HTML has them, and names of files, computed on examples and near misses.
use Rattle.std.proofs.Common.{◌≡◌, [], refl}
use Rattle.std.specs.Prelude.{codes}
use Rattle.result_pages.specs.Escaping.{escaped}
use Rattle.result_pages.specs.FileNames.{last_segment}

pub marked : escaped (codes "a<b & c>\"d'") ≡ codes "a&lt;b &amp; c&gt;&quot;d&#39;"
marked = refl

-- a line feed and a reference of its own stay readable
pub again : escaped (codes "&lt;\n") ≡ codes "&amp;lt;\n"
again = refl

-- ---- names of files

in_folders : last_segment (codes "examples/old/country.dat") ≡ codes "country.dat"
in_folders = refl

without_folder : last_segment (codes "country.dat") ≡ codes "country.dat"
without_folder = refl

at_the_top : last_segment (codes "/country.dat") ≡ codes "country.dat"
at_the_top = refl

-- nothing follows the last '/'
folder_alone : last_segment (codes "examples/") ≡ []
folder_alone = refl

-- another line between folders is no '/'
other_line : last_segment (codes "examples\\country.dat") ≡ codes "examples\\country.dat"
other_line = refl

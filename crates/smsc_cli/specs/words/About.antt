-- Words that ask about a program.
use Rattle.std.specs.Prelude.{◌||◌, ℕ, List, Option, Some, None, bytes_eq, codes, if◌then◌else◌}
use Rattle.smsc_cli.specs.declared.words.about.About.{About}
use Rattle.smsc_cli.specs.declared.words.about.About.TheVariants.{Help, Version}

abbrev pub about_in : List ℕ → Option About
about_in word = if bytes_eq word (codes "--help") || bytes_eq word (codes "-h") then Some Help
    else (if bytes_eq word (codes "--version") then Some Version else None)

-- Quantiles in text.
use Rattle.std.specs.Prelude.{ℕ, List, ◌++◌, codes, decimal}
use Rattle.smsc_status.specs.declared.commits.Quantile.{Quantile}
use Rattle.smsc_status.specs.declared.commits.Quantile.TheVariants.{Unknown, AtMost, Above}
use Rattle.smsc_status.specs.Numbers.{milliseconds_text}

-- in JSON: a limit that is not known, or is none, is null
abbrev pub limit_text : Quantile → List ℕ
limit_text (AtMost limit) = decimal limit
limit_text Unknown = codes "null"
limit_text (Above limit) = codes "null"

-- in a page
abbrev pub quantile_text : Quantile → List ℕ
quantile_text Unknown = codes "none"
quantile_text (AtMost limit) = codes "&le; " ++ (milliseconds_text limit ++ codes " ms")
quantile_text (Above limit) = codes "&gt; " ++ (milliseconds_text limit ++ codes " ms")

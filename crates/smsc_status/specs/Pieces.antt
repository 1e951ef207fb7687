-- What is written of a piece of a text.
use Rattle.std.specs.Prelude.{ℕ, List, decimal}
use Rattle.smsc_status.specs.declared.pieces.Piece.{Piece}
use Rattle.smsc_status.specs.declared.pieces.Piece.TheVariants.{Text, Escaped, Quoted, Number, Moment, Seconds, Size, Limit, Quantile}
use Rattle.sms_base.specs.Markup.{escaped}
use Rattle.smsc_status.specs.Numbers.{millionths_text, moment_text, size_text}
use Rattle.smsc_status.specs.Quantiles.{limit_text, quantile_text}
use Rattle.smsc_status.specs.Quoting.{string}

abbrev pub piece_text : Piece → List ℕ
piece_text (Text text) = text.now
piece_text (Escaped text) = escaped text.now
piece_text (Quoted text) = string text.now
piece_text (Number number) = decimal number
piece_text (Moment moment) = moment_text moment
piece_text (Seconds micros) = millionths_text micros
piece_text (Size octets) = size_text octets
piece_text (Limit quantile) = limit_text quantile
piece_text (Quantile quantile) = quantile_text quantile

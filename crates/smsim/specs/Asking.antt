-- What a run is asked, and well asked: the words of a relay run spell what they are to spell.
use Rattle.smsc_cli.specs.words.SimWords.{AreSimWords}
use Rattle.smsim.specs.declared.Command.{Command}
use Rattle.smsim.specs.declared.Command.TheVariants.{Relay, Play, Ladder, Picture, Capture, OfItself}

abbrev pub AsksWell : Command → Type 0
AsksWell (Relay words) = AreSimWords words
AsksWell Play = Unit {0}
AsksWell Ladder = Unit {0}
AsksWell Picture = Unit {0}
AsksWell Capture = Unit {0}
AsksWell (OfItself about) = Unit {0}

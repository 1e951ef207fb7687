use Rattle.std.proofs.Common.{ℕ, List, codes, map, option_map, slice_get, subst, sym, ◌∙◌}
use denote.Ref.{Bor}
use Rattle.smsc_cli.proofs.words.Asked.{when_true, whole_rest}
use Rattle.smsc_cli.specs.words.LookWords.{AskForLook}
use Rattle.smsc_cli.specs.words.ServerWords.{is_word}
use Rattle.smsc_cli.proofs.words.server.server_words.Goals as goal

pub returns-then-is_second-clause-good : goal.returns-then-is_second-clause-good
returns-then-is_second-clause-good c = λ ask. c.show_asked.ensures.good
    (subst (λ (l : List (Bor (List ℕ))). AskForLook (map (λ w. w.now) l)) (sym (whole_rest c.args.words.now))
    (when_true _ (is_word (codes "show") (option_map (λ w. w.now) (slice_get c.args.words.now 1))) (sym c.is_second.ensures.word ∙ c.if-is_second.true) ask))

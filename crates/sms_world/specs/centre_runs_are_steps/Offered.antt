-- All that a handset can be sent has been offered: where its link is ready, nothing that waits for it is due.
use Rattle.std.specs.Prelude.{◌≡◌, ℕ, List, true, None}
use Rattle.sms_centre_rows.specs.waiting.Links.{is_ready, link_of}
use Rattle.sms_centre_rows.specs.waiting.Waiting.{next}
use Rattle.sms_centre_rows.specs.declared.waiting.handset_link.HandsetLink.{HandsetLink}
use Rattle.sms_centre_spec.specs.Draft.{Core, Store, draft_of, waiting_in}

abbrev pub IsOffered : Store → List HandsetLink → Type 0
IsOffered s links = (number : List ℕ) → is_ready (link_of number links) ≡ true → next s.moment (waiting_in number s) ≡ None

-- the same of a centre between two events
abbrev pub HasOffered : Core → Type 0
HasOffered c = IsOffered (draft_of c).store c.links

-- What the rows of the outbox and the RP-SMMA that have not ended say of the world: look-ups, both ways.
use Rattle.std.specs.Prelude.{◌≡◌, ℕ, ◌<◌, List, [], Some}
use Rattle.sms_base.specs.Among.{Among}
use Rattle.sms_rows.specs.table.Table.{row_at}
use Rattle.sms_base.specs.declared.holder.Holder.TheVariants.{Entry as EntryHolder, Memory}
use Rattle.sms_handset_rows.specs.declared.outbox.notice.Notice.{Notice}
use Rattle.sms_handset_rows.specs.declared.outbox.out_entry.OutEntry.{OutEntry as OutRow}
use Rattle.sms_handset_rows.specs.outbox.Keys.{out_key}
use Rattle.sms_world_model.specs.World.{Allocation, OutEntry}
use Rattle.sms_world.specs.headline.SeenWorld.{entry_seen}

-- Each row is an entry of the world's outbox and each of its entries there a row, with the one reference that it was given.
pub record RefinesOut (handset : List ℕ) (next : ℕ) (outbox : List OutRow) (entries : List OutEntry) (up : List Allocation) : Type 0 where
  pub there : (n : ℕ) (o : OutRow) → row_at out_key n outbox ≡ Some o → Among (entry_seen handset o) entries
  pub only : (e : OutEntry) → Among e entries → e.handset ≡ handset → (o : OutRow) × ((row_at out_key e.number outbox ≡ Some o) × (e ≡ entry_seen handset o))
  pub given : (n : ℕ) (o : OutRow) → row_at out_key n outbox ≡ Some o
      → (moment : ℕ) × Among (record { handset = handset; reference = o.reference; holder = EntryHolder n; moment = moment; tpdu = [] }) up
  pub same : (n : ℕ) (o : OutRow) (g : Allocation) → row_at out_key n outbox ≡ Some o → Among g up → g.handset ≡ handset → g.holder ≡ EntryHolder n
      → g.reference ≡ o.reference
  -- numbers that were given are below the next
  pub used : (n : ℕ) (g : Allocation) → Among g up → g.handset ≡ handset → g.holder ≡ EntryHolder n → n < next

-- Each RP-SMMA that was sent and has not ended was given its reference; numbers that were given are below the next.
pub record RefinesNotices (handset : List ℕ) (next : ℕ) (notices : List Notice) (up : List Allocation) : Type 0 where
  pub given : (n : Notice) → Among n notices
      → (moment : ℕ) × Among (record { handset = handset; reference = n.reference; holder = Memory n.number; moment = moment; tpdu = [] }) up
  pub used : (n : ℕ) (g : Allocation) → Among g up → g.handset ≡ handset → g.holder ≡ Memory n → n < next

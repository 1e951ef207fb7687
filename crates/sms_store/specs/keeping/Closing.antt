-- What a keep that was closed leaves of its two files.
use Rattle.std.specs.Prelude.{[]}
use Rattle.sqlite_disk.specs.declared.Disk.{Ghosts}
use Rattle.sqlite_disk.specs.declared.Files.{Files}
use Rattle.sqlite_wal.specs.Files.{outcomes}
use Rattle.sqlite_wal.specs.Recovery.{Image}
use Rattle.sqlite.specs.Effect.{Database, IsDatabase}
use Rattle.sqlite.specs.Files.{HoldsDatabase, image_of}
use Rattle.sms_store.specs.keeping.Stores.{StoresOf}

module _ {Setup Rows : Type 0} (of : StoresOf Setup Rows) where
  -- A database file and its log, with these contents, hold the store of these rows.
  abbrev pub HoldsStore : Image → Rows → Type 0
  HoldsStore image rows = (db : Database) × IsDatabase db × of.IsStore db rows × ∥ HoldsDatabase image db.trees ∥₁

  -- The database file holds it alone: with no log.
  abbrev pub HoldsStoreAlone : Image → Rows → Type 0
  HoldsStoreAlone image rows = HoldsStore (record image { log = [] }) rows

  -- Both files hold it as they are. The database file holds it alone, as it is and as a stop may leave it.
  pub record IsWhole {D : Type 0} (g : Ghosts D) (files : Files D) (rows : Rows) : Type 0 where
    pub both : HoldsStore (image_of g files) rows
    pub alone : HoldsStoreAlone (image_of g files) rows
    pub left : (image : Image) → outcomes g files.log files.db image → HoldsStoreAlone image rows

-- What makes a table with its rows a list.
use Rattle.sms_store_sql.specs.listing.Listing.{ListOf, IsList, table_of}
use Rattle.sms_store_sql.specs.tabled.Tabled.{Computes, IsWritten, IsRead, IsSet, FindsItsKey, MeetsItsKey, IsReadBack}
use Rattle.sms_store_sql.proofs.listing.Columns.{AllSuit, cast_row_same}

module _ {X : Type 0} (l : ListOf X) where
  -- the columns' kinds leave each value as it is
  abbrev pub SuitsKinds : Type 0
  SuitsKinds = (x : X) → AllSuit l.table.columns (l.columns x)

  pub listed : Computes l → IsWritten l → IsRead l → IsSet l → SuitsKinds → FindsItsKey l → MeetsItsKey l → IsReadBack l → IsList l
  listed computes written read sets suits finds meets reads_back = let t = computes.0 in record {
    there = t.there;
    deletes = t.deletes.0;
    deletes_alone = t.deletes.1;
    updates = t.updates.0;
    updates_alone = t.updates.1;
    inserts = t.inserts.0;
    inserts_alone = t.inserts.1;
    selects = t.selects.0;
    selects_alone = t.selects.1;
    is_no_listing = t.is_no_listing;
    own_tree = t.own_tree;
    free = t.free;
    written = written;
    read = read;
    stays = λ x. cast_row_same (table_of l.table) (l.columns x) (suits x);
    finds = finds;
    meets = meets;
    guarded = t.guarded;
    agrees = computes.1;
    sets = sets;
    reads_back = reads_back;
  }

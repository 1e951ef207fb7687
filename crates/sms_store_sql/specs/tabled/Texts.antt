-- The texts of a table, from its plan.
use Rattle.std.specs.Prelude.{ℕ, ◌+◌, ◌/◌, ◌%◌, nat_lt, if◌then◌else◌, List, [], ◌∷◌, ◌++◌, map, codes}
use Rattle.sqlite.specs.Kind.{Kind}
use Rattle.sqlite.specs.Kind.TheVariants.{Integer, Real, Text, Blob, Any}
use Rattle.sqlite_schema.specs.declared.schema.Column.{Column}
use Rattle.sms_store_sql.specs.tabled.TablePlan.{TablePlan, names_of, key_names}

-- words with this between each two
abbrev pub joined : List ℕ → List (List ℕ) → List ℕ
joined between [] = []
joined between (word ∷ []) = word
joined between (word ∷ next ∷ more) = word ++ between ++ joined between (next ∷ more)

abbrev pub listed_words : List (List ℕ) → List ℕ
listed_words words = joined (codes ", ") words

-- a number of at most two digits
abbrev pub decimal : ℕ → List ℕ
decimal n = if nat_lt n 10 then (48 + n) ∷ [] else (48 + n / 10) ∷ (48 + n % 10) ∷ []

abbrev pub parameter : ℕ → List ℕ
parameter n = codes "?" ++ decimal n

abbrev pub parameters : ℕ → List (List ℕ) → List (List ℕ)
parameters from [] = []
parameters from (name ∷ more) = parameter from ∷ parameters (from + 1) more

-- each column with the parameter that it is to be
abbrev pub equations : ℕ → List (List ℕ) → List (List ℕ)
equations from [] = []
equations from (name ∷ more) = (name ++ codes " = " ++ parameter from) ∷ equations (from + 1) more

abbrev pub kind_word : Kind → List ℕ
kind_word Integer = codes "INTEGER"
kind_word Real = codes "REAL"
kind_word Text = codes "TEXT"
kind_word Blob = codes "BLOB"
kind_word Any = codes "ANY"

abbrev pub declared_column : Column → List ℕ
declared_column column = column.name ++ codes " " ++ kind_word column.kind ++ (if column.not_null then codes " NOT NULL" else [])

module _ (plan : TablePlan) where
  abbrev pub create_text : List ℕ
  create_text =
      codes "CREATE TABLE " ++ plan.name ++ codes " (" ++ listed_words (map declared_column plan.columns) ++ codes ", UNIQUE ("
      ++ listed_words (key_names plan) ++ codes ")) STRICT"

  -- the row of the key that the first parameters are
  abbrev pub where_key : List ℕ
  where_key = codes " WHERE " ++ joined (codes " AND ") (equations 1 (key_names plan))

  abbrev pub delete_text : List ℕ
  delete_text = codes "DELETE FROM " ++ plan.name ++ where_key

  -- each column is the parameter of its place
  abbrev pub update_text : List ℕ
  update_text = codes "UPDATE " ++ plan.name ++ codes " SET " ++ listed_words (equations 1 (names_of plan)) ++ where_key

  abbrev pub insert_text : List ℕ
  insert_text =
      codes "INSERT INTO " ++ plan.name ++ codes " (" ++ listed_words (names_of plan) ++ codes ") VALUES ("
      ++ listed_words (parameters 1 (names_of plan)) ++ codes ")"

  abbrev pub select_text : List ℕ
  select_text = codes "SELECT " ++ listed_words (names_of plan) ++ codes " FROM " ++ plan.name

  abbrev pub find_text : List ℕ
  find_text = select_text ++ where_key

  -- the rows that have a number in this column
  abbrev pub seek_text : List ℕ → List ℕ
  seek_text column = select_text ++ codes " WHERE " ++ column ++ codes " = " ++ parameter 1

  -- these columns alone, whose values are behind the key
  abbrev pub amend_text : List (List ℕ) → List ℕ
  amend_text columns = codes "UPDATE " ++ plan.name ++ codes " SET " ++ listed_words (equations (plan.key + 1) columns) ++ where_key

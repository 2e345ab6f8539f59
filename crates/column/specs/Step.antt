-- What an accepted action does to a column, as facts about the column before (S) and after (S'). B x is what is posted
-- for path x.
use Rattle.std.specs.Prelude.{◌≡◌, ◌≢◌, ℕ, suc, ◌+◌, ◌≤◌, ◌<◌, pos, neg_ℤ, ◌+ℤ◌}
use Rattle.column.specs.Column.{Col, share, Off}
use Rattle.column.specs.Use.{use_of, Tested}

-- rows, types, references and paths stay
pub record Keeps (S S' : Col) : Type 0 where
  pub used : S'.used ≡ S.used
  pub ty : (n : ℕ) → S'.ty n ≡ S.ty n
  pub ref : (n : ℕ) → S'.ref n ≡ S.ref n
  pub path : (n : ℕ) → S'.path n ≡ S.path n

-- the row n stays
pub record Still (S S' : Col) (n : ℕ) : Type 0 where
  pub st : S'.st n ≡ S.st n
  pub g : S'.g n ≡ S.g n
  pub a : S'.a n ≡ S.a n
  pub d : S'.d n ≡ S.d n
  pub r : S'.r n ≡ S.r n

pub record OutStays (S S' : Col) : Type 0 where
  pub out : (k n : ℕ) → S'.out k n ≡ S.out k n

pub record RedStays (S S' : Col) : Type 0 where
  pub red : (n : ℕ) → S'.red n ≡ S.red n

-- a new row
pub record Submit (S S' : Col) : Type 0 where
  pub used : S'.used ≡ suc S.used
  pub ty : (n : ℕ) → n ≢ S.used → S'.ty n ≡ S.ty n
  pub ref : (n : ℕ) → n ≢ S.used → S'.ref n ≡ S.ref n
  pub path : (n : ℕ) → n ≢ S.used → S'.path n ≡ S.path n
  pub rest : (n : ℕ) → n ≢ S.used → Still S S' n
  pub st : Off (S'.st S.used)
  pub a : S'.a S.used ≡ S.a S.used
  pub d : S'.d S.used ≡ S.d S.used
  pub r : S'.r S.used ≡ S.r S.used
  pub lower : S'.ref S.used ≤ S.used
  pub top : S'.ty S.used ≤ 2 → S'.ref S.used ≡ 0
  pub under5 : (p : ℕ) → S'.ref S.used ≡ suc p → S'.ty S.used ≡ 8 → S.ty p ≡ 5
  pub under : (p : ℕ) → S'.ref S.used ≡ suc p → S'.ty S.used ≢ 8 → (S.ty p ≢ 5) × (S.ty p ≢ 8)
  pub outs : OutStays S S'
  pub reds : RedStays S S'

-- a row that is neither CONFIRMED nor DISPLACED gets another such status, or another granted
pub record Quiet (S S' : Col) (c : ℕ) : Type 0 where
  pub keeps : Keeps S S'
  pub in_use : c < S.used
  pub before : Off (S.st c)
  pub after : Off (S'.st c)
  pub a : S'.a c ≡ S.a c
  pub d : S'.d c ≡ S.d c
  pub r : S'.r c ≡ S.r c
  pub rest : (n : ℕ) → n ≢ c → Still S S' n
  pub outs : OutStays S S'
  pub reds : RedStays S S'

-- an original is confirmed
pub record Top (S S' : Col) (c : ℕ) : Type 0 where
  pub keeps : Keeps S S'
  pub in_use : c < S.used
  pub type : S.ty c ≤ 2
  pub before : Off (S.st c)
  pub after : S'.st c ≡ 13
  pub a : S'.a c ≡ S'.g c
  pub d : S'.d c ≡ S.d c
  pub r : S'.r c ≡ S.r c
  pub rest : (n : ℕ) → n ≢ c → Still S S' n
  pub outs : OutStays S S'
  pub reds : RedStays S S'

-- a row of types 3 to 7 is confirmed, and takes its granted from the row p
pub record Child (S S' : Col) (c p : ℕ) : Type 0 where
  pub keeps : Keeps S S'
  pub in_use : c < S.used
  pub parent : S.ref c ≡ suc p
  pub type : S.ty c ≢ 8
  pub before : Off (S.st c)
  pub after : S'.st c ≡ 13
  pub a : S'.a c ≡ S'.g c
  pub d : S'.d c ≡ S.d c
  pub r : S'.r c ≡ S.r c
  pub p_before : S.st p ≡ 13
  pub p_after : S'.st p ≡ 13
  pub p_g : S'.g p ≡ S.g p
  pub p_a : S'.a p + S'.g c ≡ S.a p
  pub p_d : S'.d p ≡ S.d p
  pub p_r : S'.r p ≡ S.r p
  pub rest : (n : ℕ) → n ≢ c → n ≢ p → Still S S' n
  pub outs : (k n : ℕ) → S'.out k n ≡ S.out k n +ℤ pos (share k (S.ty c) (S.ref c) n (S'.g c))
  pub reds : RedStays S S'

-- a relinquish record c is confirmed: the redirect q gives its granted back to the row p
pub record Give (S S' : Col) (c q p : ℕ) : Type 0 where
  pub keeps : Keeps S S'
  pub in_use : c < S.used
  pub parent : S.ref c ≡ suc q
  pub grand : S.ref q ≡ suc p
  pub type : S.ty c ≡ 8
  pub before : Off (S.st c)
  pub after : S'.st c ≡ 13
  pub a : S'.a c ≡ 0
  pub d : S'.d c ≡ S.d c
  pub r : S'.r c ≡ S.r c
  pub q_before : S.st q ≡ 13
  pub q_after : S'.st q ≡ 13
  pub q_g : S'.g q ≡ S.g q
  pub q_a : S'.a q + S'.g c ≡ S.a q
  pub q_d : S'.d q ≡ S.d q
  pub q_r : S'.r q ≡ S.r q
  pub p_st : S'.st p ≡ S.st p
  pub p_g : S'.g p ≡ S.g p
  pub p_ad : S'.a p + S'.d p ≡ S.a p + S.d p + S'.g c
  pub p_r : S'.r p ≡ S.r p
  pub p_a : S.st p ≡ 13 → S'.a p ≡ S.a p + S'.g c
  pub rest : (n : ℕ) → n ≢ c → n ≢ q → n ≢ p → Still S S' n
  pub outs : (k n : ℕ) → S'.out k n ≡ S.out k n +ℤ pos (share k (S.ty c) (S.ref c) n (S'.g c)) +ℤ neg_ℤ (pos (share k (S.ty q) (S.ref q) n (S'.g c)))
  pub reds : RedStays S S'

-- an original is annulled
pub record AnnulTop (S S' : Col) (c : ℕ) : Type 0 where
  pub keeps : Keeps S S'
  pub type : S.ty c ≤ 2
  pub in_use : c < S.used
  pub before : S.st c ≡ 13
  pub whole : S.a c ≡ S.g c
  pub after : Off (S'.st c)
  pub a : S'.a c ≡ 0
  pub d : S'.d c ≡ S.d c
  pub r : S'.r c ≡ S.r c
  pub rest : (n : ℕ) → n ≢ c → Still S S' n
  pub outs : OutStays S S'
  pub reds : RedStays S S'

-- a row of types 3 to 7 is annulled, and gives its granted back to the row p
pub record AnnulChild (S S' : Col) (c p : ℕ) : Type 0 where
  pub keeps : Keeps S S'
  pub in_use : c < S.used
  pub parent : S.ref c ≡ suc p
  pub type : S.ty c ≢ 8
  pub before : S.st c ≡ 13
  pub whole : S.a c ≡ S.g c
  pub after : Off (S'.st c)
  pub a : S'.a c ≡ 0
  pub d : S'.d c ≡ S.d c
  pub r : S'.r c ≡ S.r c
  pub p_st : S'.st p ≡ S.st p
  pub p_g : S'.g p ≡ S.g p
  pub p_ad : S'.a p + S'.d p ≡ S.a p + S.d p + S.g c
  pub p_r : S'.r p ≡ S.r p
  pub p_a : S.st p ≡ 13 → S'.a p ≡ S.a p + S.g c
  pub rest : (n : ℕ) → n ≢ c → n ≢ p → Still S S' n
  pub outs : (k n : ℕ) → S'.out k n ≡ S.out k n +ℤ neg_ℤ (pos (share k (S.ty c) (S.ref c) n (S.g c)))
  pub reds : RedStays S S'

pub record Displace (S S' : Col) (c : ℕ) : Type 0 where
  pub keeps : Keeps S S'
  pub type : S.ty c ≢ 8
  pub before : S.st c ≡ 13
  pub after : S'.st c ≡ 15
  pub g : S'.g c ≡ S.g c
  pub a : S'.a c ≡ 0
  pub d : S'.d c ≡ S.d c + S.a c
  pub r : S'.r c ≡ S.r c
  pub rest : (n : ℕ) → n ≢ c → Still S S' n
  pub outs : OutStays S S'
  pub reds : RedStays S S'

pub record Reduce (S S' : Col) (c x : ℕ) : Type 0 where
  pub keeps : Keeps S S'
  pub type : S.ty c ≢ 8
  pub before : S.st c ≡ 13
  pub after : S'.st c ≡ 13
  pub g : S'.g c ≡ S.g c
  pub a : S'.a c + x ≡ S.a c
  pub d : S'.d c ≡ S.d c
  pub r : S'.r c ≡ S.r c + x
  pub rest : (n : ℕ) → n ≢ c → Still S S' n
  pub outs : OutStays S S'
  pub red : S'.red c ≡ S.red c +ℤ pos x
  pub reds : (n : ℕ) → n ≢ c → S'.red n ≡ S.red n

-- nothing of the column changes
pub record Same (S S' : Col) : Type 0 where
  pub keeps : Keeps S S'
  pub rest : (n : ℕ) → Still S S' n
  pub outs : OutStays S S'
  pub reds : RedStays S S'

pub data Step (B : ℕ → ℕ) (S S' : Col) : Type 0 where
  same : Same S S' → Step B S S'
  submit : Submit S S' → Step B S S'
  quiet : (c : ℕ) → Quiet S S' c → Step B S S'
  top : (c : ℕ) → Top S S' c → Tested B S S' c → Step B S S'
  child : (c p : ℕ) → Child S S' c p → Tested B S S' c → Step B S S'
  give : (c q p : ℕ) → Give S S' c q p → Tested B S S' c → Step B S S'
  annul_top : (c : ℕ) → AnnulTop S S' c → Step B S S'
  annul_child : (c p : ℕ) → AnnulChild S S' c p → Tested B S S' c → Step B S S'
  displace : (c : ℕ) → Displace S S' c → Step B S S'
  reduce : (c x : ℕ) → Reduce S S' c x → Step B S S'

-- a column with no rows
pub record Fresh (S : Col) : Type 0 where
  pub used : S.used ≡ 0
  pub st : (n : ℕ) → S.st n ≡ 0
  pub ref : (n : ℕ) → S.ref n ≡ 0
  pub a : (n : ℕ) → S.a n ≡ 0
  pub d : (n : ℕ) → S.d n ≡ 0
  pub r : (n : ℕ) → S.r n ≡ 0
  pub out : (k n : ℕ) → S.out k n ≡ pos 0
  pub red : (n : ℕ) → S.red n ≡ pos 0

-- what any list of steps and postings from a column with no rows comes to; a posting is for path x, and tested of it
pub data Run : (ℕ → ℕ) → Col → Type 0 where
  fresh : {B : ℕ → ℕ} {S : Col} → Fresh S → Run B S
  next : {B : ℕ → ℕ} {S S' : Col} → Run B S → Step B S S' → Run B S'
  post : {B B' : ℕ → ℕ} {S : Col} (x : ℕ) → Run B S → ((y : ℕ) → 1 ≤ y → y ≢ x → B' y ≡ B y) → use_of S x ≤ B' x → Run B' S

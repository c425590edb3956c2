-- Nodes and names counted over tokens are those of the tree, and what keeps the rules keeps them up to any token. Assumes nothing.
use Rattle.std.specs.Prelude.{ℕ, ◌+◌, ◌≡◌, refl, Bool, true, false, ◌||◌, List, [], ◌∷◌, ◌++◌, length}
use Rattle.std.proofs.Common.{arith, sym, ◌∙◌, ap, subst, true≢false, append_assoc, append-nil, length-append}
use Rattle.text.specs.Laws.Booleans.{neither, or_right}
use Rattle.text.specs.Strings.{same_name}
use Rattle.syntax.specs.Tree.{Expr, Definition, Ad, size, nodes}
use Rattle.syntax.specs.Token.{Token, operator, symbol}
use Rattle.syntax.specs.Grammar.{unary_token, ReadsTo, reads_literal, reads_own, reads_other, reads_parentheses, reads_unary, reads_binary, reads_conditional, reads_tighter, DefinesTo, defines_one, defines_more, AdTo, ad_empty, ad_plain, ad_trailing, IsAd, defined, NewAfter, Within}
use Rattle.syntax.specs.declared.Unary.{Unary}
use Rattle.syntax.specs.declared.Unary.TheVariants.{Not, Plus, Minus}
use Rattle.syntax.specs.declared.Symbol.TheVariants.{CloseBracket, Semicolon, OpenParenthesis, CloseParenthesis, Question, Colon}
use Rattle.grammar.specs.Refusal.{Role, defines, refers, role_after, nodes_at, names_at, nodes_in, names_in, nodes_of, names_of, among, repeats, ViableTo, Keeps}

-- the role of a Name after the tokens ts
unfoldable pub behind : Role → List Token → Role
behind r [] = r
behind r (t ∷ ts) = behind (role_after t) ts

pub nodes_append : (r : Role) (xs ys : List Token) → nodes_in r (xs ++ ys) ≡ nodes_in r xs + nodes_in (behind r xs) ys
unfolding nodes_in behind
nodes_append r [] ys = omega arith
nodes_append r (x ∷ xs) ys = omega (arith, nodes_append (role_after x) xs ys)

pub names_append : (r : Role) (xs ys : List Token) → names_in r (xs ++ ys) ≡ names_in r xs ++ names_in (behind r xs) ys
unfolding names_in behind
names_append r [] ys = refl
names_append r (x ∷ xs) ys = rw (names_append (role_after x) xs ys) (sym (append_assoc (names_at r x) (names_in (role_after x) xs) (names_in (behind (role_after x) xs) ys)))

pub behind_append : (r : Role) (xs ys : List Token) → behind r (xs ++ ys) ≡ behind (behind r xs) ys
unfolding behind
behind_append r [] ys = refl
behind_append r (x ∷ xs) ys = behind_append (role_after x) xs ys

-- ---- expressions

-- tokens with n nodes that define no name; before and after them a Name refers
pub record Plain (ts : List Token) (n : ℕ) : Type 0 where
  pub count : nodes_in refers ts ≡ n
  pub nameless : names_in refers ts ≡ []
  pub role : behind refers ts ≡ refers

pub plain_append : {xs ys : List Token} {m n k : ℕ} → Plain xs m → Plain ys n → m + n ≡ k → Plain (xs ++ ys) k
plain_append {xs} {ys} p q e = record {
  count = nodes_append refers xs ys ∙ rw p.role (omega (arith, p.count, q.count));
  nameless = names_append refers xs ys ∙ rw (p.role, p.nameless) q.nameless;
  role = behind_append refers xs ys ∙ rw p.role q.role;
}

-- the same of one token
pub plain_one : (t : Token) (n : ℕ) → nodes_at refers t ≡ n → names_at refers t ≡ [] → role_after t ≡ refers → Plain (t ∷ []) n
unfolding nodes_in names_in behind
plain_one t n h i j = record { count = omega arith; nameless = rw i refl; role = j }

pub unary_plain : (o : Unary) → Plain (unary_token o ∷ []) 1
unary_plain Not = plain_one _ 1 refl refl refl
unary_plain Plus = plain_one _ 1 refl refl refl
unary_plain Minus = plain_one _ 1 refl refl refl

-- THE NODES OF AN EXPRESSION ARE THOSE OF ITS TOKENS
pub reads_plain : {l b d : ℕ} {ts : List Token} {e : Expr} → ReadsTo l b d ts e → Plain ts (size e)
unfolding size nodes_in names_in behind
reads_plain reads_literal = record { count = refl; nameless = refl; role = refl }
reads_plain reads_own = record { count = refl; nameless = refl; role = refl }
reads_plain reads_other = record { count = refl; nameless = refl; role = refl }
reads_plain (reads_parentheses hd r) =
    plain_append (plain_one (symbol OpenParenthesis) 0 refl refl refl) (plain_append (reads_plain r) (plain_one (symbol CloseParenthesis) 0 refl refl refl) refl) (omega arith)
reads_plain (reads_unary {u = o} hd r) = plain_append (unary_plain o) (reads_plain r) (omega arith)
reads_plain (reads_binary {j = j} r s) = plain_append (reads_plain r) (plain_append (plain_one (operator j) 1 refl refl refl) (reads_plain s) refl) (omega arith)
reads_plain (reads_conditional hd r s t) =
    plain_append (reads_plain r)
    (plain_append (plain_one (symbol Question) 1 refl refl refl) (plain_append (reads_plain s) (plain_append (plain_one (symbol Colon) 0 refl refl refl) (reads_plain t) refl) refl) refl)
    (omega arith)
reads_plain (reads_tighter hb r) = reads_plain r

-- ---- ads

unfoldable pub names : Ad → List (List ℕ)
names [] = []
names (d ∷ a) = d.name ∷ names a

pub names_last : (a : Ad) (d : Definition) → names (a ++ d ∷ []) ≡ names a ++ d.name ∷ []
unfolding names
names_last [] d = refl
names_last (b ∷ a) d = rw (names_last a d) refl

pub names_length : (a : Ad) → length (names a) ≡ length a
unfolding names
names_length [] = refl
names_length (d ∷ a) = omega (arith, names_length a)

-- the tokens ts have the nodes and names of the definitions a
record Counted (ts : List Token) (a : Ad) : Type 0 where
  count : nodes_in defines ts ≡ nodes a
  named : names_in defines ts ≡ names a
  role : behind defines ts ≡ refers

defines_counted : {l : ℕ} {ts : List Token} {a : Ad} → DefinesTo l ts a → Counted ts a
unfolding nodes_in names_in behind nodes names
defines_counted (defines_one r) =
    let p = reads_plain r in
    record { count = omega (arith, p.count); named = rw p.nameless refl; role = p.role }
defines_counted (defines_more {w} {ts} {us} r d) =
    let p = reads_plain r in
    let q = defines_counted d in
    record {
      count = omega (arith, nodes_append refers ts (symbol Semicolon ∷ us), p.count, q.count);
      named = ap (λ (l : List (List ℕ)). w ∷ l) (names_append refers ts (symbol Semicolon ∷ us) ∙ rw p.nameless q.named);
      role = behind_append refers ts (symbol Semicolon ∷ us) ∙ q.role;
    }

-- THE NODES AND NAMES OF AN AD ARE THOSE OF ITS TOKENS
pub ad_counted : {l : ℕ} {ts : List Token} {a : Ad} → AdTo l ts a → (nodes_of ts ≡ nodes a) × (names_of ts ≡ names a)
unfolding nodes_in names_in behind nodes names
ad_counted ad_empty = (refl, refl)
ad_counted (ad_plain {ts} d) =
    let q = defines_counted d in
    (omega (arith, nodes_append defines ts (symbol CloseBracket ∷ []), q.count), names_append defines ts (symbol CloseBracket ∷ []) ∙ rw q.named (append-nil _))
ad_counted (ad_trailing {ts} d) =
    let q = defines_counted d in
    (omega (arith, nodes_append defines ts (symbol Semicolon ∷ symbol CloseBracket ∷ []), q.count), names_append defines ts (symbol Semicolon ∷ symbol CloseBracket ∷ []) ∙ rw q.named (append-nil _))

-- ---- names

among_front : (w : List ℕ) (xs ys : List (List ℕ)) → among w (xs ++ ys) ≡ false → among w xs ≡ false
unfolding among
among_front w [] ys h = refl
among_front w (x ∷ xs) ys h = let k = neither (same_name w x) (among w (xs ++ ys)) h in rw k.0 (among_front w xs ys k.1)

repeats_front : (xs ys : List (List ℕ)) → repeats (xs ++ ys) ≡ false → repeats xs ≡ false
unfolding repeats
repeats_front [] ys h = refl
repeats_front (x ∷ xs) ys h = let k = neither (among x (xs ++ ys)) (repeats (xs ++ ys)) h in rw (among_front x xs ys k.0) (repeats_front xs ys k.1)

among_last : (w x : List ℕ) (xs : List (List ℕ)) → among w xs ≡ false → same_name w x ≡ false → among w (xs ++ x ∷ []) ≡ false
unfolding among
among_last w x [] h i = rw i refl
among_last w x (y ∷ xs) h i = let k = neither (same_name w y) (among w xs) h in rw k.0 (among_last w x xs k.1 i)

among_there : (w x : List ℕ) (xs : List (List ℕ)) → same_name w x ≡ true → among w (xs ++ x ∷ []) ≡ true
unfolding among
among_there w x [] i = rw i refl
among_there w x (y ∷ xs) i = or_right (same_name w y) _ (among_there w x xs i)

-- a name more: one that is new, and one that is there
pub fresh_last : (a : Ad) (w : List ℕ) → repeats (names a) ≡ false → defined w a ≡ false → repeats (names a ++ w ∷ []) ≡ false
unfolding names repeats among defined
fresh_last [] w h i = refl
fresh_last (d ∷ a) w h i =
    let k = neither (among d.name (names a)) (repeats (names a)) h in
    let j = neither (same_name d.name w) (defined w a) i in
    rw (among_last d.name w (names a) k.0 j.0) (fresh_last a w k.1 j.1)

pub taken_last : (a : Ad) (w : List ℕ) → defined w a ≡ true → repeats (names a ++ w ∷ []) ≡ true
unfolding names repeats defined
taken_last [] w h = absurd (true≢false (sym h))
taken_last (d ∷ a) w h = go (same_name d.name w) refl (taken_last a w) h
  where
    go : (b : Bool) → same_name d.name w ≡ b → (defined w a ≡ true → repeats (names a ++ w ∷ []) ≡ true) → (b || defined w a) ≡ true → repeats (d.name ∷ (names a ++ w ∷ [])) ≡ true
    go true e f h = rw (among_there d.name w (names a) e) refl
    go false e f h = or_right (among d.name (names a ++ w ∷ [])) _ (f h)

distinct_repeats : (a b : Ad) → repeats (names a) ≡ false → NewAfter defined a b → repeats (names (a ++ b)) ≡ false
unfolding NewAfter
distinct_repeats a [] h n = rw (append-nil a) h
distinct_repeats a (d ∷ b) h n =
    subst (λ (l : Ad). repeats (names l) ≡ false) (append_assoc a (d ∷ []) b)
    (distinct_repeats (a ++ d ∷ []) b (rw (names_last a d) (fresh_last a d.name h n.0)) n.1)

-- ---- the rules, up to any token

pub viable_front : (n : ℕ) (xs ys : List Token) → ViableTo n (xs ++ ys) → ViableTo n xs
viable_front n xs ys x = (ys ++ x.0, x.1, rw (append_assoc xs ys x.0) at x.2)

pub keeps_front : (xs ys : List Token) → Keeps (xs ++ ys) → Keeps xs
keeps_front xs ys k =
    let e = names_append refers xs ys in
    let i : length (names_of (xs ++ ys)) ≡ length (names_of xs) + length (names_in (behind refers xs) ys) = ap length e ∙ length-append (names_of xs) (names_in (behind refers xs) ys) in
    record {
      shallow = viable_front _ xs ys k.shallow;
      distinct = repeats_front (names_of xs) (names_in (behind refers xs) ys) (rw e at k.distinct);
      few = record { few_definitions = omega (arith, k.few.few_definitions); few_nodes = omega (arith, k.few.few_nodes, nodes_append refers xs ys) };
    }

-- AN AD WITHIN THE BOUNDS BREAKS NO RULE
pub ad_keeps : (ts : List Token) (a : Ad) → IsAd ts a → Within a → Keeps ts
unfolding names repeats
ad_keeps ts a i w =
    let c = ad_counted i in
    record {
      shallow = ([], a, rw (append-nil ts) i);
      distinct = rw c.1 (distinct_repeats [] a refl w.distinct);
      few = record { few_definitions = rw c.1 (omega (arith, names_length a, w.few_definitions)); few_nodes = rw c.0 w.few_nodes };
    }

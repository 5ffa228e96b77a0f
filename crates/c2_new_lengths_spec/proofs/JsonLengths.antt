-- How much a JSON value holds: no more than the text has bytes that it is read of. A text counts its bytes and one
-- more, every other value one.
use Rattle.std.proofs.Common.{◌≡◌, ℕ, ◌+◌, ◌-◌, ◌≤◌, Bool, true, false, cond, ◌==◌, List, [], ◌∷◌, ◌++◌, length}
use Rattle.std.proofs.Common.{take, Option, Some, None, option_map, option_and_then, Ordering, Less, Equal, Greater}
use Rattle.std.proofs.Common.{refl, ap, subst, arith}
use Rattle.std.specs.Prelude.{⊤}
use Rattle.std.specs.Ordering.{nat_cmp, match_ordering}
use Rattle.std.specs.Cmp.Lexicographic.{slice_cmp}
use Rattle.json.specs.Ascii as ascii
use Rattle.json.specs.Align.{span, span_byte}
use Rattle.json.specs.Json as json
use Rattle.json.specs.Json.{if_last, value}
use Rattle.json.specs.Lex.{Lexeme, token, comma, colon, Class, quote, backslash, operator, space, other, class}
use Rattle.json.specs.Lex.{operator_lexeme, string_token, Mode, between, in_word, in_string, in_escape, lex, lex_byte}
use Rattle.json.specs.Lex.{Place, fresh, after_value, after_comma, after_key, begins_colon, may_begin, may_close}
use Rattle.json.specs.Lex.{if_allowed, place_token, punctuate, tokens}
use Rattle.json.specs.Text.{content, plain}
use Rattle.json.specs.Token.{Token}
use Rattle.json.specs.Tree.{json_tokens, items_tokens, members_tokens}
use Rattle.json.specs.Word.{after_number, ends_word, head, number_before, word}
use Rattle.json.proofs.Unique.Spelling.{value-json_tokens_back}
use Rattle.serde_json.specs.Data.{Num, Data, null, boolean, number, string, array, object, Items, no_items, item}
use Rattle.serde_json.specs.Data.{Members, no_members, member, put}
use Rattle.serde_json.specs.Find.{as_array, as_str, get, get_member}
use Rattle.serde_json.specs.Read.{max_depth, number_of, of_items, of_json, of_members, read}
use Rattle.c2_new_lengths_spec.proofs.ContentLengths.{AtMost, content_most}

-- ---- tokens

-- how much a token holds: a text and a key their bytes and one more, a fault nothing, every other one
abbrev pub token_size : Token → ℕ
token_size Token.begin_object = 1
token_size Token.end_object = 1
token_size Token.begin_array = 1
token_size Token.end_array = 1
token_size (Token.key s) = 1 + length s
token_size (Token.string s) = 1 + length s
token_size (Token.number s) = 1
token_size (Token.boolean b) = 1
token_size Token.null = 1
token_size Token.bad = 0

-- tokens together
abbrev pub tokens_size : List Token → ℕ
tokens_size [] = 0
tokens_size (t ∷ ts) = token_size t + tokens_size ts

-- the tokens of two lists together hold what those of both do
both_sizes : (xs ys : List Token) → tokens_size (xs ++ ys) ≡ tokens_size xs + tokens_size ys
both_sizes [] ys = omega arith
both_sizes (x ∷ xs) ys = omega (arith, both_sizes xs ys)

-- a lexeme
abbrev lexeme_size : Lexeme → ℕ
lexeme_size (token t) = token_size t
lexeme_size comma = 0
lexeme_size colon = 0

-- lexemes together
abbrev lexemes_size : List Lexeme → ℕ
lexemes_size [] = 0
lexemes_size (l ∷ ls) = lexeme_size l + lexemes_size ls

-- a sign between values holds one at most
operator_size : (x : ℕ) → lexeme_size (operator_lexeme x) ≤ 1
operator_size x =
    by (x == ascii.open_brace) (x == ascii.close_brace) (x == ascii.open_bracket) (x == ascii.close_bracket)
    (x == ascii.comma)
  where
    by : (a b c d e : Bool)
        → lexeme_size (cond a (token Token.begin_object) (cond b (token Token.end_object)
        (cond c (token Token.begin_array) (cond d (token Token.end_array) (cond e comma colon))))) ≤ 1
    by true b c d e = omega arith
    by false true c d e = omega arith
    by false false true d e = omega arith
    by false false false true e = omega arith
    by false false false false true = omega arith
    by false false false false false = omega arith

-- a number holds one byte at most
number_size : (t : List ℕ) (o : Option (List ℕ)) → token_size (number_before t o) ≤ 1
number_size t None = omega arith
number_size t (Some rest) = by (ends_word rest) (take (length t - length rest) t)
  where
    by : (b : Bool) (s : List ℕ) → token_size (cond b (Token.number s) Token.bad) ≤ 1
    by true s = omega arith
    by false s = omega arith

-- a literal or what stands in its place holds one byte at most
literal_size : (b : Bool) (t : Token) → token_size t ≤ 1 → token_size (cond b t Token.bad) ≤ 1
literal_size true t h = h
literal_size false t h = omega arith

-- one of two tokens
either_size : (b : Bool) (t u : Token) → token_size t ≤ 1 → token_size u ≤ 1 → token_size (cond b t u) ≤ 1
either_size true t u h k = h
either_size false t u h k = k

-- a word holds one byte at most
word_size : (t : List ℕ) → token_size (word t) ≤ 1
unfolding word
word_size t =
    either_size (head t == ascii.lower_t) _ _ (literal_size _ (Token.boolean true) (omega arith))
    (either_size (head t == ascii.lower_f) _ _ (literal_size _ (Token.boolean false) (omega arith))
    (either_size (head t == ascii.lower_n) _ _ (literal_size _ Token.null (omega arith))
    (number_size t (after_number t))))

-- a text whose content is no longer than this
string_size : (n : ℕ) (o : Option (List ℕ)) → AtMost n o → token_size (string_token o) ≤ 1 + n
string_size n None h = omega arith
string_size n (Some s) h = omega (arith, h)

-- one byte further
byte_size : (m : Mode) (c : Class) (x : ℕ) (xs : List ℕ)
    → ((n : Mode) → lexemes_size (lex n xs) + span n xs ≤ length xs)
    → lexemes_size (lex_byte m c x xs (λ next. lex next xs)) + span_byte m c (λ next. span next xs) ≤ length (x ∷ xs)
byte_size between quote x xs h =
    omega (arith, h in_string, string_size (span in_string xs) (content plain xs) (content_most plain xs))
byte_size between backslash x xs h = omega (arith, h in_word)
byte_size between operator x xs h = omega (arith, h between, operator_size x)
byte_size between space x xs h = omega (arith, h between)
byte_size between other x xs h = omega (arith, h in_word, word_size (x ∷ xs))
byte_size in_word quote x xs h = omega (arith, h in_word)
byte_size in_word backslash x xs h = omega (arith, h in_word)
byte_size in_word operator x xs h = omega (arith, h between, operator_size x)
byte_size in_word space x xs h = omega (arith, h between)
byte_size in_word other x xs h = omega (arith, h in_word)
byte_size in_string quote x xs h = omega (arith, h between)
byte_size in_string backslash x xs h = omega (arith, h in_escape)
byte_size in_string operator x xs h = omega (arith, h in_string)
byte_size in_string space x xs h = omega (arith, h in_string)
byte_size in_string other x xs h = omega (arith, h in_string)
byte_size in_escape c x xs h = omega (arith, h in_string)

-- the lexemes of a text hold no more than it has bytes
lexed_size : (m : Mode) (xs : List ℕ) → lexemes_size (lex m xs) + span m xs ≤ length xs
unfolding lex span
lexed_size m [] = omega arith
lexed_size m (x ∷ xs) = byte_size m (class x) x xs (λ n. lexed_size n xs)

-- a token, where it is allowed
allowed_size : (b : Bool) (t : Token) (k : Place → List Token) (next : Place) (n : ℕ) → tokens_size (k next) ≤ n
    → tokens_size (if_allowed b t k next) ≤ token_size t + n
allowed_size true t k next n h = omega (arith, h)
allowed_size false t k next n h = omega arith

-- a token at its place
placed_size : (p : Place) (t : Token) (b : Bool) (k : Place → List Token) (n : ℕ)
    → ((q : Place) → tokens_size (k q) ≤ n) → tokens_size (place_token p t b k) ≤ token_size t + n
placed_size p Token.begin_object b k n h = allowed_size (may_begin p) Token.begin_object k fresh n (h fresh)
placed_size p Token.end_object b k n h = allowed_size (may_close p) Token.end_object k after_value n (h after_value)
placed_size p Token.begin_array b k n h = allowed_size (may_begin p) Token.begin_array k fresh n (h fresh)
placed_size p Token.end_array b k n h = allowed_size (may_close p) Token.end_array k after_value n (h after_value)
placed_size p (Token.key s) b k n h = omega arith
placed_size p (Token.string s) true k n h = allowed_size (may_begin p) (Token.key s) k after_key n (h after_key)
placed_size p (Token.string s) false k n h = allowed_size (may_begin p) (Token.string s) k after_value n (h after_value)
placed_size p (Token.number s) b k n h = allowed_size (may_begin p) (Token.number s) k after_value n (h after_value)
placed_size p (Token.boolean x) b k n h = allowed_size (may_begin p) (Token.boolean x) k after_value n (h after_value)
placed_size p Token.null b k n h = allowed_size (may_begin p) Token.null k after_value n (h after_value)
placed_size p Token.bad b k n h = omega arith

-- the tokens of lexemes hold no more than these
punctuated_size : (p : Place) (ls : List Lexeme) → tokens_size (punctuate p ls) ≤ lexemes_size ls
unfolding punctuate
punctuated_size fresh [] = omega arith
punctuated_size after_value [] = omega arith
punctuated_size after_comma [] = omega arith
punctuated_size after_key [] = omega arith
punctuated_size fresh (token t ∷ ls) =
    placed_size fresh t (begins_colon ls) (λ next. punctuate next ls) (lexemes_size ls) (λ q. punctuated_size q ls)
punctuated_size after_value (token t ∷ ls) =
    placed_size after_value t (begins_colon ls) (λ next. punctuate next ls) (lexemes_size ls)
    (λ q. punctuated_size q ls)
punctuated_size after_comma (token t ∷ ls) =
    placed_size after_comma t (begins_colon ls) (λ next. punctuate next ls) (lexemes_size ls)
    (λ q. punctuated_size q ls)
punctuated_size after_key (token t ∷ ls) =
    placed_size after_key t (begins_colon ls) (λ next. punctuate next ls) (lexemes_size ls) (λ q. punctuated_size q ls)
punctuated_size fresh (comma ∷ ls) = omega arith
punctuated_size after_value (comma ∷ ls) = omega (arith, punctuated_size after_comma ls)
punctuated_size after_comma (comma ∷ ls) = omega arith
punctuated_size after_key (comma ∷ ls) = omega arith
punctuated_size fresh (colon ∷ ls) = omega arith
punctuated_size after_value (colon ∷ ls) = omega arith
punctuated_size after_comma (colon ∷ ls) = omega arith
punctuated_size after_key (colon ∷ ls) = omega (arith, punctuated_size fresh ls)

-- the tokens of a text hold no more than it has bytes
text_size : (text : List ℕ) → tokens_size (tokens text) ≤ length text
text_size text = omega (arith, punctuated_size fresh (lex between text), lexed_size between text)

-- ---- values

-- how much a value holds
abbrev mutual
  pub data_size : Data → ℕ
  data_size null = 1
  data_size (boolean b) = 1
  data_size (number n) = 1
  data_size (string s) = 1 + length s
  data_size (array ds) = 1 + items_size ds
  data_size (object ms) = 1 + members_size ms

  -- the items of a list together
  pub items_size : Items → ℕ
  items_size no_items = 0
  items_size (item d ds) = data_size d + items_size ds

  -- the members of an object together, without their keys
  pub members_size : Members → ℕ
  members_size no_members = 0
  members_size (member k d ms) = data_size d + members_size ms

-- one of two lists of members, by the order of keys
by_order : (n : ℕ) (o : Ordering) (a b c : Members) → members_size a ≤ n → members_size b ≤ n → members_size c ≤ n
    → members_size (match_ordering o a b c) ≤ n
by_order n Less a b c f g h = f
by_order n Equal a b c f g h = g
by_order n Greater a b c f g h = h

-- members with one more, or with another value
put_size : (k : List ℕ) (d : Data) (ms : Members) → members_size (put k d ms) ≤ data_size d + members_size ms
put_size k d no_members = omega arith
put_size k d (member l e ms) =
    by_order (data_size d + (data_size e + members_size ms)) (slice_cmp nat_cmp k l)
    (member k d (member l e ms)) (member l d ms) (member l e (put k d ms))
    (omega arith) (omega arith) (omega (arith, put_size k d ms))

-- a value that holds no more than this, where there is one
abbrev DataAtMost : ℕ → Option Data → Type 0
DataAtMost n None = ⊤
DataAtMost n (Some d) = data_size d ≤ n

-- items that hold no more than this, where there are some
abbrev ItemsAtMost : ℕ → Option Items → Type 0
ItemsAtMost n None = ⊤
ItemsAtMost n (Some ds) = items_size ds ≤ n

-- members that hold no more than this, where there are some
abbrev MembersAtMost : ℕ → Option Members → Type 0
MembersAtMost n None = ⊤
MembersAtMost n (Some ms) = members_size ms ≤ n

-- a number
number_at_most : (o : Option Num) → DataAtMost 1 (option_map number o)
number_at_most None = tt
number_at_most (Some n) = omega arith

-- a list of items
array_at_most : (k n : ℕ) (o : Option Items) → ItemsAtMost n o → 1 + n ≤ k → DataAtMost k (option_map array o)
array_at_most k n None h le = tt
array_at_most k n (Some ds) h le = omega (arith, h, le)

-- an object of members
object_at_most : (k n : ℕ) (o : Option Members) → MembersAtMost n o → 1 + n ≤ k → DataAtMost k (option_map object o)
object_at_most k n None h le = tt
object_at_most k n (Some ms) h le = omega (arith, h, le)

-- an item before others
item_before : (d : Data) (k n : ℕ) (o : Option Items) → ItemsAtMost n o → data_size d + n ≤ k
    → ItemsAtMost k (option_map (item d) o)
item_before d k n None h le = tt
item_before d k n (Some ds) h le = omega (arith, h, le)

-- an item before others holds no more than this with them, where there is one
item_at_most : (k m n : ℕ) (o : Option Data) (p : Option Items) → DataAtMost m o → ItemsAtMost n p → m + n ≤ k
    → ItemsAtMost k (option_and_then (λ d. option_map (item d) p) o)
item_at_most k m n None p h f le = tt
item_at_most k m n (Some d) p h f le = item_before d k n p f (omega (arith, h, le))

-- fewer members than this are fewer than more
members_more : (k n : ℕ) (o : Option Members) → MembersAtMost n o → n ≤ k → MembersAtMost k o
members_more k n None h le = tt
members_more k n (Some ms) h le = omega (arith, h, le)

-- a member that goes in before others, where it is there
member_at_most : (k m n : ℕ) (key : List ℕ) (found : Members) (o : Option Data) (f : Data → Option Members)
    → DataAtMost m o → ((d : Data) → MembersAtMost (n + members_size (put key d found)) (f d))
    → m + n + members_size found ≤ k
    → MembersAtMost k (option_and_then f o)
member_at_most k m n key found None f h g le = tt
member_at_most k m n key found (Some d) f h g le =
    members_more k (n + members_size (put key d found)) (f d) (g d) (omega (arith, h, le, put_size key d found))

-- a value holds no more than its tokens
mutual
  json_size : (j : json.Json) → DataAtMost (tokens_size (json_tokens j)) (of_json j)
  json_size json.null = omega arith
  json_size (json.boolean b) = omega arith
  json_size (json.number s) = number_at_most (number_of s)
  json_size (json.string s) = omega arith
  json_size (json.array js) =
      array_at_most (tokens_size (json_tokens (json.array js))) (tokens_size (items_tokens js)) (of_items js)
      (list_size js) (omega arith)
  json_size (json.object ms) =
      object_at_most (tokens_size (json_tokens (json.object ms))) (tokens_size (members_tokens ms) + 0)
      (of_members ms no_members) (object_size ms no_members) (omega arith)

  list_size : (js : json.Items) → ItemsAtMost (tokens_size (items_tokens js)) (of_items js)
  list_size json.no_items = omega arith
  list_size (json.item j js) =
      item_at_most (tokens_size (items_tokens (json.item j js))) (tokens_size (json_tokens j))
      (tokens_size (items_tokens js)) (of_json j) (of_items js) (json_size j) (list_size js)
      (omega (arith, both_sizes (json_tokens j) (items_tokens js)))

  object_size : (ms : json.Members) (found : Members)
      → MembersAtMost (tokens_size (members_tokens ms) + members_size found) (of_members ms found)
  object_size json.no_members found = omega arith
  object_size (json.member k j ms) found =
      member_at_most (tokens_size (members_tokens (json.member k j ms)) + members_size found)
      (tokens_size (json_tokens j)) (tokens_size (members_tokens ms)) k found (of_json j)
      (λ d. of_members ms (put k d found)) (json_size j)
      (λ d. object_size ms (put k d found)) (omega (arith, both_sizes (json_tokens j) (members_tokens ms)))

-- a value that is read of a text holds no more than it has bytes
pub read_size : (text : List ℕ) (d : Data) → read text ≡ Some d → data_size d ≤ length text
read_size text d e = by (value max_depth (tokens text)) refl e
  where
    by : (o : Option (json.Json × List Token)) → value max_depth (tokens text) ≡ o
        → option_and_then of_json (option_and_then (λ p. if_last p.0 p.1) o) ≡ Some d → data_size d ≤ length text
    by None is h = absurd (cc (h))
    by (Some (j, t ∷ ts)) is h = absurd (cc (h))
    by (Some (j, [])) is h =
        let n : ℕ = tokens_size (json_tokens j) in
        let own : data_size d ≤ n = subst (DataAtMost n) h (json_size j) in
        let all = ap tokens_size (value-json_tokens_back max_depth (tokens text) [] j is) in
        omega (arith, own, all, both_sizes (json_tokens j) [], text_size text)

-- ---- what is found in a value

-- each value holds one at least
pub some_size : (d : Data) → 1 ≤ data_size d
some_size null = omega arith
some_size (boolean b) = omega arith
some_size (number n) = omega arith
some_size (string s) = omega arith
some_size (array ds) = omega arith
some_size (object ms) = omega arith

-- a member holds no more than all
member_size : (k : List ℕ) (ms : Members) (v : Data) → get_member k ms ≡ Some v → data_size v ≤ members_size ms
member_size k no_members v e = absurd (cc (e))
member_size k (member l d ms) v e = by (slice_cmp nat_cmp k l) (member_size k ms v) e
  where
    by : (o : Ordering) → (get_member k ms ≡ Some v → data_size v ≤ members_size ms)
        → match_ordering o (get_member k ms) (Some d) (get_member k ms) ≡ Some v
        → data_size v ≤ data_size d + members_size ms
    by Less later h = omega (arith, later h)
    by Equal later h = let is : d ≡ v = cc (h) in omega (arith, ap data_size is)
    by Greater later h = omega (arith, later h)

-- a value under a key holds no more than its object
pub got_size : (k : List ℕ) (d v : Data) → get k d ≡ Some v → data_size v ≤ data_size d
got_size k null v e = absurd (cc (e))
got_size k (boolean b) v e = absurd (cc (e))
got_size k (number n) v e = absurd (cc (e))
got_size k (string s) v e = absurd (cc (e))
got_size k (array ds) v e = absurd (cc (e))
got_size k (object ms) v e = omega (arith, member_size k ms v e)

-- a text holds its bytes and one more
pub str_size : (d : Data) (t : List ℕ) → as_str d ≡ Some t → 1 + length t ≤ data_size d
str_size null t e = absurd (cc (e))
str_size (boolean b) t e = absurd (cc (e))
str_size (number n) t e = absurd (cc (e))
str_size (string s) t e = let is : s ≡ t = cc (e) in omega (arith, ap length is)
str_size (array ds) t e = absurd (cc (e))
str_size (object ms) t e = absurd (cc (e))

-- a list holds what its items do
pub array_size : (d : Data) (ds : Items) → as_array d ≡ Some ds → items_size ds ≤ data_size d
array_size null ds e = absurd (cc (e))
array_size (boolean b) ds e = absurd (cc (e))
array_size (number n) ds e = absurd (cc (e))
array_size (string s) ds e = absurd (cc (e))
array_size (array es) ds e = let is : es ≡ ds = cc (e) in omega (arith, ap items_size is)
array_size (object ms) ds e = absurd (cc (e))

-- a text under a key is no longer than the object is
pub text_under : (k : List ℕ) (d : Data) (t : List ℕ) → option_and_then as_str (get k d) ≡ Some t
    → length t ≤ data_size d
text_under k d t e = by (get k d) refl e
  where
    by : (o : Option Data) → get k d ≡ o → option_and_then as_str o ≡ Some t → length t ≤ data_size d
    by None is h = absurd (cc (h))
    by (Some v) is h = omega (arith, str_size v t h, got_size k d v is)

-- the items of a list under a key hold no more than the object
pub items_under : (k : List ℕ) (d : Data) (ds : Items) → option_and_then as_array (get k d) ≡ Some ds
    → items_size ds ≤ data_size d
items_under k d ds e = by (get k d) refl e
  where
    by : (o : Option Data) → get k d ≡ o → option_and_then as_array o ≡ Some ds → items_size ds ≤ data_size d
    by None is h = absurd (cc (h))
    by (Some v) is h = omega (arith, array_size v ds h, got_size k d v is)

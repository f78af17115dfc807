-- The texts that stand within a line, and what a byte that none of them has tells.
use Rattle.std.proofs.Common.{◌≡◌, ℕ, ◌==◌, Bool, true, not, List, [], ◌∷◌, ◌++◌, refl, sym, ap, ◌∙◌, arith, codes}
use Rattle.std.specs.Prelude.{decimal}
use Rattle.std.specs.List.{list_all}
use Rattle.std.proofs.lemmas.Bool.{and_from, and_parts}
use Rattle.std.proofs.lemmas.Bool.Decides.{nat_tests}
use Rattle.std.proofs.lemmas.List.Folds.{list_all-append}
use Rattle.word_bits.specs.declared.reply.Errno.TheVariants.{Fault}
use Rattle.task_script.specs.Texts.{call_text, prot_text}
use Rattle.task_script.proofs.Inner.{is_inner, IsInner, decimal_inner, prot_inner, call_inner}
use Rattle.task_script.proofs.Splitting.{list_all-weaker}
use Rattle.mm_report.specs.Text.{errno_text, reply_text}
use Rattle.mm_report.specs.Types.{CallWords, Errno, BadF, NoMem, Exist, Inval, MFile, Reply, Good, Num, Refused, MapErr, AccErr, Busy, Intr, Sent}

-- a byte is another one
abbrev pub is_not : ℕ → ℕ → Bool
is_not byte b = not (b == byte)

-- no line feed
abbrev pub IsInLine : List ℕ → Type 0
IsInLine bs = list_all (is_not 10) bs ≡ true

pub line_both : (xs ys : List ℕ) → IsInLine xs → IsInLine ys → IsInLine (xs ++ ys)
line_both xs ys one two = list_all-append (is_not 10) xs ys ∙ and_from (list_all (is_not 10) xs) (list_all (is_not 10) ys) one two

inner_in_line : (bs : List ℕ) → IsInner bs → IsInLine bs
inner_in_line bs inner = list_all-weaker is_inner (is_not 10) (λ b is. (and_parts (not (b == 10)) (not (b == 61)) is).0) bs inner

-- a text within a call's line has no equals sign
pub no_equals : (bs : List ℕ) → IsInner bs → list_all (is_not 61) bs ≡ true
no_equals bs inner = list_all-weaker is_inner (is_not 61) (λ b is. (and_parts (not (b == 10)) (not (b == 61)) is).1) bs inner

pub decimal_in_line : (n : ℕ) → IsInLine (decimal n)
decimal_in_line n = inner_in_line (decimal n) (decimal_inner n)

pub prot_in_line : (prot : ℕ) → IsInLine (prot_text prot)
prot_in_line prot = inner_in_line (prot_text prot) (prot_inner prot)

pub call_in_line : (w : CallWords) → IsInLine (call_text w)
call_in_line w = inner_in_line (call_text w) (call_inner w)

errno_in_line : (e : Errno) → IsInLine (errno_text e)
errno_in_line BadF = refl
errno_in_line NoMem = refl
errno_in_line Exist = refl
errno_in_line Inval = refl
errno_in_line MFile = refl
errno_in_line Fault = refl

pub reply_in_line : (reply : Reply) → IsInLine (reply_text reply)
reply_in_line Good = refl
reply_in_line (Num n) = decimal_in_line n
reply_in_line (Refused e) = errno_in_line e
reply_in_line MapErr = refl
reply_in_line AccErr = refl
reply_in_line (Busy word) = line_both (codes "busy ") (decimal word) refl (decimal_in_line word)
reply_in_line Intr = refl
reply_in_line Sent = refl

not_here : (byte b : ℕ) (bs : List ℕ) → list_all (is_not byte) (b ∷ bs) ≡ true → (b ≡ byte → ⊥) × (list_all (is_not byte) bs ≡ true)
not_here byte b bs all = go (b == byte) refl all
  where
    go : (t : Bool) → (b == byte) ≡ t → list_all (is_not byte) (b ∷ bs) ≡ true → (b ≡ byte → ⊥) × (list_all (is_not byte) bs ≡ true)
    go t is all = grind (arith, nat_tests)

-- the first such byte is in one place
pub same_front : (byte : ℕ) (f g xs ys : List ℕ) → list_all (is_not byte) f ≡ true → list_all (is_not byte) g ≡ true → f ++ byte ∷ xs ≡ g ++ byte ∷ ys → (f ≡ g) × (xs ≡ ys)
same_front byte [] [] xs ys none none_g e = (refl, cc)
same_front byte [] (g ∷ gs) xs ys none none_g e = let here : byte ≡ g = cc in absurd ((not_here byte g gs none_g).0 (sym here))
same_front byte (f ∷ fs) [] xs ys none none_g e = let here : f ≡ byte = cc in absurd ((not_here byte f fs none).0 here)
same_front byte (f ∷ fs) (g ∷ gs) xs ys none none_g e =
    let first : f ≡ g = cc in
    let rest : fs ++ byte ∷ xs ≡ gs ++ byte ∷ ys = cc in
    let more = same_front byte fs gs xs ys (not_here byte f fs none).1 (not_here byte g gs none_g).1 rest in
    (let h : f ∷ fs ≡ g ∷ gs = ap (λ l. f ∷ l) more.0 ∙ ap (λ b. b ∷ gs) first in h, more.1)

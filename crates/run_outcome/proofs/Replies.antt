-- The calls that have replies, and one more call.
use Rattle.std.specs.List.{AllZip}
use Rattle.std.specs.Prelude.{Option, Some, None}
use Rattle.std.proofs.Common.{◌≡◌, ℕ, Bool, true, false, not, cond, List, [], ◌∷◌, ◌++◌, ap, sym, ◌∙◌, subst}
use Rattle.std.proofs.lemmas.List.{append-nil}
use Rattle.std.proofs.lemmas.List.Elements.{filter-append}
use Rattle.model_base.specs.Calls as calls
use Rattle.run_outcome.specs.declared.reply.Reply.{Reply}
use Rattle.run_outcome.specs.declared.reply.Reply.TheVariants.{Accepted, Refused, Found, Nothing, FoundEach, Rows, Updates, ReadFault, Done, Held, NotHeld, NoMemory}
use Rattle.run_outcome.specs.Shows.{ShowsReply, ShowsReplies, found_reply, is_quiet, with_replies}

-- what a read of a key found is shown by its reply
pub shows_found : (at : ℕ) (value : Option (List ℕ)) (c : calls.Call) → c.reply ≡ calls.found at value → ShowsReply (found_reply at value) c
shows_found at None c is = is
shows_found at (Some value) c is = is

-- what a value shows is a reply
pub has_reply : (r : Reply) (c : calls.Call) → ShowsReply r c → is_quiet c.reply ≡ false
has_reply (Accepted run) c shows = ap is_quiet shows.1
has_reply (Refused why) c shows = ap is_quiet shows
has_reply (Found at value) c shows = ap is_quiet shows
has_reply (Nothing at) c shows = ap is_quiet shows
has_reply (FoundEach at values) c shows = ap is_quiet shows
has_reply (Rows at rows) c shows = ap is_quiet shows
has_reply (Updates at records) c shows = ap is_quiet shows
has_reply (ReadFault count) c shows = ap is_quiet shows
has_reply Done c shows = ap is_quiet shows
has_reply Held c shows = ap is_quiet shows
has_reply NotHeld c shows = ap is_quiet shows
has_reply NoMemory c shows = ap is_quiet shows

-- one more call, with a reply or without one
pub with_reply : (cs : List calls.Call) (c : calls.Call) → is_quiet c.reply ≡ false → with_replies (cs ++ c ∷ []) ≡ with_replies cs ++ c ∷ []
with_reply cs c replied =
    filter-append (λ (d : calls.Call). not (is_quiet d.reply)) cs (c ∷ []) ∙ ap (λ (b : Bool). with_replies cs ++ cond (not b) (c ∷ []) []) replied

pub without_reply : (cs : List calls.Call) (c : calls.Call) → is_quiet c.reply ≡ true → with_replies (cs ++ c ∷ []) ≡ with_replies cs
without_reply cs c none =
    filter-append (λ (d : calls.Call). not (is_quiet d.reply)) cs (c ∷ []) ∙ (ap (λ (b : Bool). with_replies cs ++ cond (not b) (c ∷ []) []) none ∙ append-nil (with_replies cs))

zip_more : {A B : Type 0} (R : A → B → Type 0) (xs : List A) (ys : List B) (x : A) (y : B) → AllZip R xs ys → R x y → AllZip R (xs ++ x ∷ []) (ys ++ y ∷ [])
zip_more R [] [] x y all here = (here, tt)
zip_more R [] (v ∷ ys) x y all here = absurd all
zip_more R (u ∷ xs) [] x y all here = absurd all
zip_more R (u ∷ xs) (v ∷ ys) x y all here = (all.0, zip_more R xs ys x y all.1 here)

-- the replies so far, with the reply to one more call
pub told_more : (replies : List Reply) (cs : List calls.Call) (r : Reply) (c : calls.Call) → ShowsReplies replies cs → ShowsReply r c → ShowsReplies (replies ++ r ∷ []) (cs ++ c ∷ [])
told_more replies cs r c so_far shows =
    subst (AllZip ShowsReply (replies ++ r ∷ [])) (sym (with_reply cs c (has_reply r c shows))) (zip_more ShowsReply replies (with_replies cs) r c so_far shows)

-- one more call that has no reply
pub told_still : (replies : List Reply) (cs : List calls.Call) (c : calls.Call) → ShowsReplies replies cs → c.reply ≡ calls.quiet → ShowsReplies replies (cs ++ c ∷ [])
told_still replies cs c so_far none =
    subst (AllZip ShowsReply replies) (sym (without_reply cs c (ap is_quiet none))) so_far

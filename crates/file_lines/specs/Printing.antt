-- The line that an action prints.
use Rattle.std.specs.Prelude.{ℕ, List, ◌∷◌, [], ◌++◌, codes, decimal, Err, Ok, Result}
use Rattle.holder.specs.Layout.{capability_bytes}
use Rattle.holder.specs.Refusals.{holder_refusal}
use Rattle.holder.specs.declared.capability.Capability.{Capability}
use Rattle.holder.specs.declared.error.HolderRefusal.{HolderRefusal}
use Rattle.store.specs.Errors.{store_refusal}
use Rattle.store.specs.Requests.{Told, granted, the_bytes}
use Rattle.store.specs.declared.error.StoreRefusal.{StoreRefusal}
use Rattle.text.specs.Hex.{hex_text}
use Rattle.text.specs.RefusalLine.{refusal_line}
use Rattle.file_lines.specs.declared.action.Action.{Action}
use Rattle.file_lines.specs.declared.action.Action.TheVariants.{File, Open, Read, Restrict, Revoke}
use Rattle.file_lines.specs.declared.reply.Reply.{Reply}
use Rattle.file_lines.specs.declared.reply.Reply.TheVariants.{Bytes, Given, Refused}

-- the word of the action, and the number of its line
abbrev pub action_text : Action → List ℕ
action_text Open = codes "open"
action_text (File line) = codes "file " ++ decimal line
action_text (Restrict line) = codes "restrict " ++ decimal line
action_text (Read line) = codes "read " ++ decimal line
action_text (Revoke line) = codes "withdraw " ++ decimal line

-- a capability in hexadecimal, bytes as they are, or the line of a refusal
abbrev pub reply_text : Reply → List ℕ
reply_text (Given capability) = hex_text (capability_bytes capability)
reply_text (Bytes bytes) = bytes.now
reply_text (Refused refusal) = refusal_line refusal

-- an answer of the store: a registry asks for nothing but capabilities and bytes
abbrev pub answer_text : Result Told StoreRefusal → List ℕ
answer_text (Ok (granted capability)) = reply_text (Given capability)
answer_text (Ok (the_bytes bytes)) = bytes
answer_text (Ok other) = []
answer_text (Err e) = reply_text (Refused (store_refusal e))

-- a restricted capability
abbrev pub restriction_text : Result Capability HolderRefusal → List ℕ
restriction_text (Ok capability) = reply_text (Given capability)
restriction_text (Err e) = reply_text (Refused (holder_refusal e))

-- the action, its reply, and a line feed
unfoldable pub action_line : Action → List ℕ → List ℕ
action_line action reply = action_text action ++ (codes " " ++ (reply ++ (10 ∷ [])))
